-- A condition as its conjuncts: the operands of its AND, or the condition itself.
-- Source: Hive Language Manual, logical operators. A condition lets a row pass where it is true, and neither false nor
-- NULL.
use Rattle.std.specs.Prelude.{ℕ, nat_le, nat_lt, Bool, ◌&&◌, List, [], ◌∷◌, filter, Option, None, Some}
use Rattle.std.specs.List.{list_all}
use Rattle.hv_value.specs.declared.sql_type.SqlType.TheVariants as type
use Rattle.hv_expr.specs.declared.function.Many.{Many}
use Rattle.hv_expr.specs.declared.function.Many.TheVariants as many
use Rattle.hv_expr.specs.declared.tree.TypedExpr.{TypedExpr}
use Rattle.hv_expr.specs.declared.tree.TypedExpr.TheOpen.{TypedExpr-F}
use Rattle.hv_expr.specs.declared.tree.TypedExpr.TheVariants as tree
use Rattle.hv_expr.specs.declared.tree.TypedExpr.TheViews.{out-TypedExpr}
use Rattle.hv_law_expr.specs.Places.{looks_only}
use Rattle.hv_typing.specs.Rows.{Frame, is_true}

abbrev pub operands_or : TypedExpr → Many → List TypedExpr → List TypedExpr
operands_or condition many.And operands = operands
operands_or condition _ operands = condition ∷ []

abbrev pub layer_conjuncts : TypedExpr → TypedExpr-F TypedExpr → List TypedExpr
layer_conjuncts condition (TypedExpr-F.Many function kind operands) = operands_or condition function operands
layer_conjuncts condition _ = condition ∷ []

unfoldable pub conjuncts : TypedExpr → List TypedExpr
conjuncts condition = layer_conjuncts condition (out-TypedExpr condition)

-- without a condition there is none
abbrev pub conjuncts_of : Option TypedExpr → List TypedExpr
conjuncts_of None = []
conjuncts_of (Some condition) = conjuncts condition

-- these conditions as one, none where there is none of them
abbrev pub anded : List TypedExpr → Option TypedExpr
anded [] = None
anded (first ∷ []) = Some first
anded (first ∷ second ∷ more) = Some (tree.Many many.And type.Boolean (first ∷ second ∷ more))

abbrev pub all_true : List TypedExpr → Frame → Bool
all_true conditions frame = list_all (λ condition. is_true condition frame) conditions

-- the places from one to below another
unfoldable pub within : ℕ → ℕ → ℕ → Bool
within from to place = nat_le from place && nat_lt place to

-- those of the conditions that look at these places alone
abbrev pub only_within : ℕ → ℕ → List TypedExpr → List TypedExpr
only_within from to conditions = filter (looks_only (within from to)) conditions
