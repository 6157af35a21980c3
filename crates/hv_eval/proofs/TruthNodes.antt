-- What a comparison says.
use Rattle.std.proofs.Common.{◌≡◌, Bool, Option, None, Some, sym, ap, ◌∙◌}
use Rattle.hv_value.specs.declared.sql_type.SqlType.{SqlType}
use Rattle.hv_value.specs.declared.value.Value.TheOpen.{Value-F}
use Rattle.hv_value.specs.declared.value.Value.TheViews.{out-Value, out-roll-Value}
use Rattle.hv_value.specs.declared.value.Value.TheVariants.{rolls-Null, rolls-Bool}
use Rattle.hv_expr.specs.declared.function.Two.{Two}
use Rattle.hv_expr.specs.declared.tree.TypedExpr.{TypedExpr}
use Rattle.hv_expr.specs.declared.tree.TypedExpr.TheVariants as tree
use Rattle.hv_expr.specs.Values.{truth_of, truth_value, layer_truth}
use Rattle.hv_expr.specs.Functions.{two_value}
use Rattle.hv_expr.proofs.Equations.{value_in-Two}
use Rattle.hv_eval.specs.declared.frame.Scope.{Scope}
use Rattle.hv_eval.specs.Frames.{value_at, row_of, group_of}

said : (t : Option Bool) → truth_of (truth_value t) ≡ t
said None = ap layer_truth (ap out-Value (sym rolls-Null) ∙ out-roll-Value Value-F.Null)
said (Some b) = ap layer_truth (ap out-Value (sym (rolls-Bool b)) ∙ out-roll-Value (Value-F.Bool b))

pub truth-two : (function : Two) (kind : SqlType) (x y : TypedExpr) (at : Scope) (t : Option Bool)
    → truth_value t ≡ two_value function kind (value_at at x) (value_at at y)
    → t ≡ truth_of (value_at at (tree.Two function kind x y))
truth-two function kind x y at t e = sym (said t) ∙ ap truth_of e ∙ ap truth_of (sym (value_in-Two function kind x y (group_of at) (row_of at)))
