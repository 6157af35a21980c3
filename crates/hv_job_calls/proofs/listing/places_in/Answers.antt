use Rattle.hv_job_calls.proofs.ListedJobs.{parted}
use Rattle.hv_job_calls.proofs.listing.places_in.Goals as goal

pub returns : goal.returns
returns c =
    parted c.args.partition.now c.loop-place.place-iterator.rest.len c.args.places.items c.loop-place.place-iterator.rest.items c.loop-place.kept.items
    c.loop-place.place-iterator.rest.ok.0 c.in-None.ensures.steps.0 c.loop-place.invariant
