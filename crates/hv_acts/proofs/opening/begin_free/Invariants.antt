use Rattle.hv_history.specs.Legal.{profile}
use Rattle.hv_acts.proofs.opening.begin_free.Given as goal

abbrev pub ghost-can_begin : goal.ghost-can_begin
ghost-can_begin g a = profile
