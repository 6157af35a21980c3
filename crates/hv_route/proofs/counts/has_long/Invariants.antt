use Rattle.std.proofs.Common.{◌≡◌, drop}
use Rattle.std.specs.List.{list_any}
use Rattle.hv_route.specs.Touching.{is_long}
use Rattle.hv_route.proofs.counts.has_long.Given as goal

abbrev pub invariant-loop-touch : goal.invariant-loop-touch
invariant-loop-touch l = list_any is_long (drop l.touch-index l.touches) ≡ list_any is_long l.touches
