use Rattle.hv_history.specs.Legal.{profile}
use Rattle.hv_job_calls.proofs.listing.get_live.Given as goal

abbrev pub ghost-bytes_for : goal.ghost-bytes_for
ghost-bytes_for g a = profile
