use Rattle.std.proofs.Common.{◌≡◌, ◌++◌, map, take}
use Rattle.hv_route.specs.Touching.{place_of_insert}
use Rattle.hv_route.proofs.counts.push_inserts.Given as goal

abbrev pub invariant-loop-row : goal.invariant-loop-row
invariant-loop-row l = l.placed.items ≡ l.fn.placed.items ++ map (place_of_insert l.shape) (take l.row-index l.rows)
