use Rattle.std.proofs.Common.{◌≡◌, take}
use Rattle.hv_expr.specs.Groups.{over_values}
use Rattle.hv_seen.specs.Seen.{seen_value}
use Rattle.hv_eval.proofs.accumulate.fold.Given as goal

abbrev pub invariant-loop-value : goal.invariant-loop-value
invariant-loop-value l = seen_value l.kept ≡ over_values l.function (take l.value-index l.values)
