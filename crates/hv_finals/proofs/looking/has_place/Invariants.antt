use Rattle.std.proofs.Common.{◌≡◌, drop}
use Rattle.std.specs.List.{list_any}
use Rattle.hv_shelf.specs.Places.{is_in}
use Rattle.hv_finals.proofs.looking.has_place.Given as goal

abbrev pub invariant-loop-place : goal.invariant-loop-place
invariant-loop-place l = list_any (is_in l.dir) (drop l.place-index l.places) ≡ list_any (is_in l.dir) l.places
