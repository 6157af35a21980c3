use Rattle.hv_choosing.specs.Listing.{AreListed}
use Rattle.hv_choosing.proofs.Listed.{listed-end, listed-named}
use Rattle.hv_choosing.proofs.listing.list_files.Goals as goal

are-listed : (c : goal.After-drop-place-iterator-2) → AreListed c.args.places.items c.loop-place.files.items
are-listed c =
    listed-end c.loop-place.place-iterator.rest.len c.args.places.items c.loop-place.place-iterator.rest.items c.loop-place.files.items
    c.loop-place.place-iterator.rest.ok.0 c.in-None.ensures.steps.0 c.loop-place.invariant

pub returns-clause-listed : goal.returns-clause-listed
returns-clause-listed c = are-listed c

pub returns-clause-named : goal.returns-clause-named
returns-clause-named c = listed-named c.args.places.items c.loop-place.files.items (are-listed c)
