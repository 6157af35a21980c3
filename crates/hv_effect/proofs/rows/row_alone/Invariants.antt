use Rattle.std.proofs.Common.{◌≡◌, take}
use Rattle.hv_meaning.specs.Meaning.{values_alone}
use Rattle.hv_effect.proofs.rows.row_alone.Given as goal

abbrev pub invariant-loop-expr : goal.invariant-loop-expr
invariant-loop-expr l = l.values.items ≡ values_alone (take l.expr-index l.exprs)
