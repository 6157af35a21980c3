use Rattle.hv_history.specs.Legal.{profile}
use Rattle.hv_telling.proofs.telling.begin.Given as goal

abbrev pub ghost-begin : goal.ghost-begin
ghost-begin g a = profile
