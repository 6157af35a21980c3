use Rattle.std.proofs.Common.{◌≡◌, reverse, length}
use Rattle.hv_expr.specs.Groups.{once_each}
use Rattle.hv_eval.proofs.Once.{with_rest}
use Rattle.hv_eval.proofs.accumulate.once_each.Given as goal

-- what is kept, with what is left, is what is kept of all
abbrev pub invariant-loop-value : goal.invariant-loop-value
invariant-loop-value l = with_rest l.kept.keys (reverse l.rest.items) ≡ once_each l.fn.values.items

abbrev pub decreases-loop-value : goal.decreases-loop-value
decreases-loop-value l = length l.rest.items
