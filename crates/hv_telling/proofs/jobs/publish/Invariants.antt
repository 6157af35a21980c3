use Rattle.hv_history.specs.Legal.{profile}
use Rattle.hv_telling.proofs.jobs.publish.Given as goal

abbrev pub ghost-publish : goal.ghost-publish
ghost-publish g a = profile
