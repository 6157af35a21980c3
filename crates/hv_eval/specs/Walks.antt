-- What the walks find at the nodes that hold rows of parts.
use Rattle.std.specs.Prelude.{List, Option, option_map}
use Rattle.hv_value.specs.declared.value.Value.{Value}
use Rattle.hv_expr.specs.declared.tree.Branch.{Branch}
use Rattle.hv_expr.specs.declared.tree.Link.{Link}
use Rattle.hv_expr.specs.declared.tree.TypedExpr.{TypedExpr}
use Rattle.hv_expr.specs.Values.{or_null}
use Rattle.hv_expr.specs.Evaluation.{chained, chosen, or_else}
use Rattle.hv_eval.specs.declared.frame.Scope.{Scope}
use Rattle.hv_eval.specs.Frames.{value_at}

unfoldable pub chain_value : List (Link TypedExpr) → Scope → Value → Value
chain_value links at first = chained (value_at at) first links

unfoldable pub chosen_value : List (Branch TypedExpr) → Scope → Option Value → Option Value
chosen_value branches at operand = chosen (value_at at) operand branches

unfoldable pub optional_value : Option TypedExpr → Scope → Option Value
optional_value expr at = option_map (value_at at) expr

-- the value of the branch that was met, or else the other value, or NULL
unfoldable pub settled_value : Option Value → Option Value → Value
settled_value found otherwise = or_else found (or_null otherwise)
