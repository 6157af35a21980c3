use Rattle.std.proofs.Common.{◌≡◌, ◌++◌, map, take}
use Rattle.hv_route.specs.Touching.{place_of_delete}
use Rattle.hv_route.proofs.counts.push_deletes.Given as goal

abbrev pub invariant-loop-found : goal.invariant-loop-found
invariant-loop-found l = l.placed.items ≡ l.fn.placed.items ++ map place_of_delete (take l.found-index l.deletes)
