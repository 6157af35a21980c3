use Rattle.std.proofs.Common.{◌≡◌, ◌++◌, List, filter}
use Rattle.hv_shelf.specs.declared.place.Place.{Place}
use Rattle.hv_job_calls.specs.Listing.{is_part}
use Rattle.hv_job_calls.proofs.listing.places_in.Given as goal

abbrev pub invariant-loop-place : goal.invariant-loop-place
invariant-loop-place l =
    (more : List Place) → more ≡ filter (is_part l.partition) l.place-iterator.rest.items
    → filter (is_part l.partition) l.fn.places.items ≡ l.kept.items ++ more
