use Rattle.std.proofs.Common.{◌≡◌, drop}
use Rattle.std.specs.List.{list_all}
use Rattle.hv_finals.specs.Finals.{has_place}
use Rattle.hv_finals.proofs.looking.have_places.Given as goal

abbrev pub invariant-loop-dir : goal.invariant-loop-dir
invariant-loop-dir l = list_all (has_place l.places) (drop l.dir-index l.dirs) ≡ list_all (has_place l.places) l.dirs
