use Rattle.hv_history.specs.Legal.{profile}
use Rattle.hv_job_calls.proofs.listing.list_noted.Given as goal

abbrev pub ghost-places_for : goal.ghost-places_for
ghost-places_for g a = profile
