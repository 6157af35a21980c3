-- What a typed expression comes to: on a row, and over the rows of a group.
-- Source: Hive Language Manual, operators, functions and GROUP BY.
use Rattle.std.specs.Prelude.{Bool, if◌then◌else◌, List, [], ◌∷◌, map, slice_get, Option, None, Some, option_map}
use Rattle.hv_value.specs.declared.value.Value.{Value}
use Rattle.hv_expr.specs.declared.tree.Branch.{Branch}
use Rattle.hv_expr.specs.declared.tree.Link.{Link}
use Rattle.hv_expr.specs.declared.tree.TypedExpr.{TypedExpr}
use Rattle.hv_expr.specs.declared.tree.TypedExpr.TheOpen.{TypedExpr-F}
use Rattle.hv_expr.specs.declared.tree.TypedExpr.TheFolds.{fold-TypedExpr}
use Rattle.hv_expr.specs.Values.{taken, taken_or_null, or_null, holds, truth_of, equal}
use Rattle.hv_expr.specs.Functions.{arithmetic_value, one_value, two_value, three_value, many_value, in_value}
use Rattle.hv_expr.specs.Groups.{aggregate_value, row_count}

-- a chain is taken from the left
abbrev pub chained : {A : Type 0} → (A → Value) → Value → List (Link A) → Value
chained value v [] = v
chained value v (link ∷ links) = chained value (arithmetic_value link.operator v (value link.operand)) links

-- a WHEN without an operand is a condition, with one it is compared to it
abbrev pub is_met : Option Value → Value → Bool
is_met None condition = holds (truth_of condition)
is_met (Some operand) condition = holds (equal operand condition)

-- the value of the first branch that is met
abbrev pub chosen : {A : Type 0} → (A → Value) → Option Value → List (Branch A) → Option Value
chosen value operand [] = None
chosen value operand (branch ∷ branches) =
    if is_met operand (value branch.condition) then Some (value branch.value) else chosen value operand branches

abbrev pub or_else : Option Value → Value → Value
or_else None v = v
or_else (Some v) _ = v

-- An expression over a group, on one of its rows, where its parts have these values on rows.
abbrev pub layer_value : {A : Type 0} → (A → List Value → Value) → TypedExpr-F A → List (List Value) → List Value → Value
layer_value value (TypedExpr-F.Column place kind) group row = taken_or_null kind (slice_get row place)
layer_value value (TypedExpr-F.Literal literal kind) group row = taken kind literal
layer_value value (TypedExpr-F.One function kind x) group row = one_value function kind (value x row)
layer_value value (TypedExpr-F.Two function kind x y) group row = two_value function kind (value x row) (value y row)
layer_value value (TypedExpr-F.Three function kind x y z) group row =
    three_value function (value x row) (value y row) (value z row)
layer_value value (TypedExpr-F.Many function kind arguments) group row = many_value function (map (λ x. value x row) arguments)
layer_value value (TypedExpr-F.In x negated among) group row = in_value negated (value x row) (map (λ y. value y row) among)
layer_value value (TypedExpr-F.Chain kind first links) group row = chained (λ x. value x row) (value first row) links
layer_value value (TypedExpr-F.Case kind operand branches otherwise) group row =
    or_else (chosen (λ x. value x row) (option_map (λ x. value x row) operand) branches)
    (or_null (option_map (λ x. value x row) otherwise))
layer_value value TypedExpr-F.CountRows group row = row_count group
layer_value value (TypedExpr-F.Aggregate function distinct kind argument) group row =
    aggregate_value function distinct (map (value argument) group)

unfoldable pub value_in : TypedExpr → List (List Value) → List Value → Value
value_in =
    fold-TypedExpr (List (List Value) → List Value → Value)
    (λ layer group row. layer_value (λ part row. part group row) layer group row)

-- On a row alone. An aggregate is then over no rows.
unfoldable pub value_of : TypedExpr → List Value → Value
value_of expr row = value_in expr [] row

abbrev pub values_of : List TypedExpr → List Value → List Value
values_of exprs row = map (λ expr. value_of expr row) exprs

-- Over the rows of a group: what stands outside aggregates is taken on its first row, or on a row
-- without values where there is none.
abbrev pub first_row : List (List Value) → List Value
first_row [] = []
first_row (row ∷ rows) = row

abbrev pub value_over : TypedExpr → List (List Value) → Value
value_over expr group = value_in expr group (first_row group)
