use Rattle.std.proofs.Common.{◌≡◌, map}
use Rattle.hv_route.specs.Routes.{place_of_row}
use Rattle.hv_route.proofs.files.place_rows.Given as goal

abbrev pub invariant-loop-row : goal.invariant-loop-row
invariant-loop-row l = l.placed.items ≡ map (place_of_row l.shape) l.yielded
