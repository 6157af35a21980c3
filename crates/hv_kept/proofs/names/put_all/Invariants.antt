use Rattle.std.proofs.Common.{◌≡◌, ◌||◌, take}
use Rattle.std.specs.FinMap as tree
use Rattle.hv_shelf.specs.declared.place.Place.{Place}
use Rattle.hv_kept.specs.Kept.{is_among}
use Rattle.hv_kept.proofs.names.put_all.Given as goal

abbrev pub invariant-loop-place : goal.invariant-loop-place
invariant-loop-place l =
    (q : Place) → tree.contains_key l.names.tree q
    ≡ (tree.contains_key l.fn.names.tree q || is_among (take l.place-index l.places) q)
