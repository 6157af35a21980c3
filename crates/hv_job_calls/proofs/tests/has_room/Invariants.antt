use Rattle.hv_history.specs.Legal.{profile}
use Rattle.hv_job_calls.proofs.tests.has_room.Given as goal

abbrev pub ghost-has_room : goal.ghost-has_room
ghost-has_room g a = profile
