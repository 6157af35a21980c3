use Rattle.hv_history.specs.Legal.{profile}
use Rattle.hv_telling.proofs.jobs.take_away.Given as goal

abbrev pub ghost-take_away : goal.ghost-take_away
ghost-take_away g a = profile
