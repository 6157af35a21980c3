-- A condition is true where its conjuncts are.
use Rattle.std.proofs.Common.{◌≡◌, Bool, true, false, ◌&&◌, List, [], ◌∷◌, Option, None, Some, refl, sym, ap, ◌∙◌}
use Rattle.hv_value.specs.declared.sql_type.SqlType.{SqlType}
use Rattle.hv_value.specs.declared.sql_type.SqlType.TheVariants as type
use Rattle.hv_value.specs.declared.value.Value.TheOpen.{Value-F}
use Rattle.hv_value.specs.declared.value.Value.TheViews.{out-Value, out-roll-Value}
use Rattle.hv_value.specs.declared.value.Value.TheVariants.{rolls-Null, rolls-Bool}
use Rattle.hv_expr.specs.declared.function.Many.{Many}
use Rattle.hv_expr.specs.declared.function.Many.TheVariants as many
use Rattle.hv_expr.specs.declared.tree.TypedExpr.{TypedExpr}
use Rattle.hv_expr.specs.declared.tree.TypedExpr.TheOpen.{TypedExpr-F}
use Rattle.hv_expr.specs.declared.tree.TypedExpr.TheViews.{out-TypedExpr, roll-TypedExpr, roll-out-TypedExpr, out-roll-TypedExpr}
use Rattle.hv_expr.specs.declared.tree.TypedExpr.TheVariants as tree
use Rattle.hv_expr.specs.declared.tree.TypedExpr.TheVariants.{rolls-Many}
use Rattle.hv_expr.specs.Values.{truth_of, truth_value, layer_truth, holds, both}
use Rattle.hv_expr.specs.Functions.{all_of, many_value}
use Rattle.hv_expr.specs.Evaluation.{value_of, values_of}
use Rattle.hv_expr.proofs.Equations.{value_of-Many}
use Rattle.hv_typing.specs.Rows.{Frame, is_true, is_met}
use Rattle.hv_rewrite.specs.Conditions.{operands_or, layer_conjuncts, conjuncts, conjuncts_of, anded, all_true}
use Rattle.hv_rewrite.proofs.Lists.{and-true}

said : (t : Option Bool) → truth_of (truth_value t) ≡ t
said None = ap layer_truth (ap out-Value (sym rolls-Null) ∙ out-roll-Value Value-F.Null)
said (Some b) = ap layer_truth (ap out-Value (sym (rolls-Bool b)) ∙ out-roll-Value (Value-F.Bool b))

meets : (s t : Option Bool) → (holds s && holds t) ≡ holds (both s t)
meets (Some true) t = refl
meets (Some false) t = refl
meets None (Some true) = refl
meets None (Some false) = refl
meets None None = refl

every : (operands : List TypedExpr) (row : Frame) → all_true operands row ≡ holds (all_of (values_of operands row))
every [] row = refl
every (operand ∷ operands) row =
    ap (λ b. is_true operand row && b) (every operands row) ∙ meets (truth_of (value_of operand row)) (all_of (values_of operands row))

and-is-all : (kind : SqlType) (operands : List TypedExpr) (row : Frame) → is_true (tree.Many many.And kind operands) row ≡ all_true operands row
unfolding many_value
and-is-all kind operands row =
    ap (λ v. holds (truth_of v)) (value_of-Many many.And kind operands row)
    ∙ ap holds (said (all_of (values_of operands row)))
    ∙ sym (every operands row)

alone : (condition : TypedExpr) (row : Frame) → is_true condition row ≡ all_true (condition ∷ []) row
alone condition row = sym (and-true (is_true condition row))

by-function : (function : Many) (kind : SqlType) (operands : List TypedExpr) (row : Frame)
    → is_true (tree.Many function kind operands) row ≡ all_true (operands_or (tree.Many function kind operands) function operands) row
by-function many.And kind operands row = and-is-all kind operands row
by-function many.Or kind operands row = alone (tree.Many many.Or kind operands) row
by-function many.Coalesce kind operands row = alone (tree.Many many.Coalesce kind operands) row
by-function many.Concat kind operands row = alone (tree.Many many.Concat kind operands) row
by-function many.Array kind operands row = alone (tree.Many many.Array kind operands) row

by-layer : (condition : TypedExpr) (layer : TypedExpr-F TypedExpr) → condition ≡ roll-TypedExpr layer → (row : Frame)
    → is_true condition row ≡ all_true (layer_conjuncts condition layer) row
by-layer condition (TypedExpr-F.Column place kind) is row = alone condition row
by-layer condition (TypedExpr-F.Literal literal kind) is row = alone condition row
by-layer condition (TypedExpr-F.One function kind x) is row = alone condition row
by-layer condition (TypedExpr-F.Two function kind x y) is row = alone condition row
by-layer condition (TypedExpr-F.Three function kind x y z) is row = alone condition row
by-layer condition (TypedExpr-F.Many function kind operands) is row =
    let same : condition ≡ tree.Many function kind operands = is ∙ rolls-Many function kind operands in
    ap (λ e. is_true e row) same
    ∙ by-function function kind operands row
    ∙ ap (λ e. all_true (operands_or e function operands) row) (sym same)
by-layer condition (TypedExpr-F.In x negated among) is row = alone condition row
by-layer condition (TypedExpr-F.Chain kind first links) is row = alone condition row
by-layer condition (TypedExpr-F.Case kind operand branches otherwise) is row = alone condition row
by-layer condition TypedExpr-F.CountRows is row = alone condition row
by-layer condition (TypedExpr-F.Aggregate function distinct kind argument) is row = alone condition row

pub true-by-conjuncts : (condition : TypedExpr) (row : Frame) → is_true condition row ≡ all_true (conjuncts condition) row
unfolding conjuncts
true-by-conjuncts condition row = by-layer condition (out-TypedExpr condition) (sym (roll-out-TypedExpr condition)) row

pub met-by-conjuncts : (condition : Option TypedExpr) (row : Frame) → is_met condition row ≡ all_true (conjuncts_of condition) row
met-by-conjuncts None row = refl
met-by-conjuncts (Some condition) row = true-by-conjuncts condition row

pub anded-true : (conditions : List TypedExpr) (row : Frame) → is_met (anded conditions) row ≡ all_true conditions row
anded-true [] row = refl
anded-true (first ∷ []) row = alone first row
anded-true (first ∷ second ∷ more) row = and-is-all type.Boolean (first ∷ second ∷ more) row

-- ---- as the code takes a condition apart

pub conjuncts-Many : (function : Many) (kind : SqlType) (operands : List TypedExpr)
    → conjuncts (tree.Many function kind operands) ≡ operands_or (tree.Many function kind operands) function operands
unfolding conjuncts
conjuncts-Many function kind operands =
    ap (layer_conjuncts (tree.Many function kind operands))
    (ap out-TypedExpr (sym (rolls-Many function kind operands)) ∙ out-roll-TypedExpr (TypedExpr-F.Many function kind operands))

other-layer : (condition : TypedExpr) (layer : TypedExpr-F TypedExpr) → condition ≡ roll-TypedExpr layer
    → ((function : Many) (kind : SqlType) (operands : List TypedExpr) → condition ≡ tree.Many function kind operands → ⊥)
    → layer_conjuncts condition layer ≡ condition ∷ []
other-layer condition (TypedExpr-F.Column place kind) is other = refl
other-layer condition (TypedExpr-F.Literal literal kind) is other = refl
other-layer condition (TypedExpr-F.One function kind x) is other = refl
other-layer condition (TypedExpr-F.Two function kind x y) is other = refl
other-layer condition (TypedExpr-F.Three function kind x y z) is other = refl
other-layer condition (TypedExpr-F.Many function kind operands) is other =
    absurd (other function kind operands (is ∙ rolls-Many function kind operands))
other-layer condition (TypedExpr-F.In x negated among) is other = refl
other-layer condition (TypedExpr-F.Chain kind first links) is other = refl
other-layer condition (TypedExpr-F.Case kind operand branches otherwise) is other = refl
other-layer condition TypedExpr-F.CountRows is other = refl
other-layer condition (TypedExpr-F.Aggregate function distinct kind argument) is other = refl

pub conjuncts-other : (condition : TypedExpr)
    → ((function : Many) (kind : SqlType) (operands : List TypedExpr) → condition ≡ tree.Many function kind operands → ⊥)
    → conjuncts condition ≡ condition ∷ []
unfolding conjuncts
conjuncts-other condition other = other-layer condition (out-TypedExpr condition) (sym (roll-out-TypedExpr condition)) other

pub ruleset apart = (conjuncts-Many, conjuncts-other)
