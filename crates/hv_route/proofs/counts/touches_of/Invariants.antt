use Rattle.std.proofs.Common.{◌≡◌, map}
use Rattle.hv_route.specs.Touching.{touch_of}
use Rattle.hv_route.proofs.counts.touches_of.Given as goal

abbrev pub invariant-loop-run : goal.invariant-loop-run
invariant-loop-run l = l.touches.items ≡ map (touch_of l.info.table.0) l.yielded
