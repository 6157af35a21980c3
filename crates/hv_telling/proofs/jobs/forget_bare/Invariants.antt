use Rattle.hv_history.specs.Legal.{profile}
use Rattle.hv_telling.proofs.jobs.forget_bare.Given as goal

abbrev pub ghost-note : goal.ghost-note
ghost-note g a = profile
