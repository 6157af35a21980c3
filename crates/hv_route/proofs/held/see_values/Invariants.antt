use Rattle.std.proofs.Common.{drop}
use Rattle.std.specs.List.{AllByRecursion}
use Rattle.hv_route.specs.Back.{IsHeld}
use Rattle.hv_route.proofs.held.see_values.Given as goal

abbrev pub invariant-loop-value : goal.invariant-loop-value
invariant-loop-value l = AllByRecursion IsHeld (drop l.value-index l.values) → AllByRecursion IsHeld l.values
