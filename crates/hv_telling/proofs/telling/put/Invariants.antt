use Rattle.hv_history.specs.Legal.{profile}
use Rattle.hv_telling.proofs.telling.put.Given as goal

abbrev pub ghost-put : goal.ghost-put
ghost-put g a = profile
