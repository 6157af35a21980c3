use Rattle.std.proofs.Common.{◌≡◌, take}
use Rattle.hv_job_calls.specs.Listing.{lost_up_to}
use Rattle.hv_job_calls.proofs.listing.lost_up_to.Given as goal

abbrev pub invariant-loop-write : goal.invariant-loop-write
invariant-loop-write l = l.exceptions.items ≡ lost_up_to l.mark (take l.write-index l.lost)
