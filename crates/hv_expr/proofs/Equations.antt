-- The value of each kind of expression by the values of its parts.
use Rattle.std.proofs.Common.{if◌then◌else◌, ◌≡◌, ℕ, Bool, List, [], ◌∷◌, map, slice_get, Option, Some, None, option_map, pos, refl, sym, ap, ◌∙◌}
use Rattle.std.specs.Int.{int_wrap, w64}
use Rattle.hv_value.specs.declared.value.Value.{Value}
use Rattle.hv_value.specs.declared.value.Value.TheVariants as value
use Rattle.hv_value.specs.declared.sql_type.SqlType.{SqlType}
use Rattle.hv_expr.specs.declared.function.One.{One}
use Rattle.hv_expr.specs.declared.function.Two.{Two}
use Rattle.hv_expr.specs.declared.function.Three.{Three}
use Rattle.hv_expr.specs.declared.function.Many.{Many}
use Rattle.hv_expr.specs.declared.function.Aggregate.{Aggregate}
use Rattle.hv_expr.specs.declared.tree.Branch.{Branch}
use Rattle.hv_expr.specs.declared.tree.Link.{Link}
use Rattle.hv_expr.specs.declared.tree.TypedExpr.{TypedExpr}
use Rattle.hv_expr.specs.declared.tree.TypedExpr.TheOpen.{TypedExpr-F}
use Rattle.hv_expr.specs.declared.tree.TypedExpr.TheViews.{out-TypedExpr, roll-TypedExpr, out-roll-TypedExpr}
use Rattle.hv_expr.specs.declared.tree.TypedExpr.TheFolds.{fold_out-TypedExpr, map-TypedExpr}
use Rattle.hv_expr.specs.declared.tree.TypedExpr.TheShapes
use Rattle.hv_expr.specs.declared.tree.TypedExpr.TheVariants as tree
use Rattle.hv_expr.specs.declared.tree.TypedExpr.TheVariants.{rolls-Column, rolls-Literal, rolls-One, rolls-Two, rolls-Three, rolls-Many, rolls-In, rolls-Chain, rolls-Case, rolls-CountRows, rolls-Aggregate}
use Rattle.std.proofs.lemmas.Simd.{map-map}
use Rattle.hv_expr.specs.Values.{taken, taken_or_null, or_null}
use Rattle.hv_expr.specs.Functions.{arithmetic_value, one_value, two_value, three_value, many_value, in_value}
use Rattle.hv_expr.specs.Groups.{aggregate_value, row_count}
use Rattle.hv_expr.specs.Evaluation.{layer_value, value_in, value_of, values_of, chained, is_met, chosen, or_else}

abbrev Rows : Type 0
Rows = List (List Value)

abbrev Meaning : Type 0
Meaning = Rows → List Value → Value

abbrev at_part : Rows → Meaning → List Value → Value
at_part group part row = part group row

abbrev at_expr : Rows → TypedExpr → List Value → Value
at_expr group expr row = value_in expr group row

chained-mapped : (group : Rows) (row : List Value) (v : Value) (links : List (Link TypedExpr))
    → chained (λ (part : Meaning). part group row) v (map ((TheShapes.former-TypedExpr-Chain-2-at-2).map TypedExpr Meaning value_in) links)
    ≡ chained (λ expr. value_in expr group row) v links
chained-mapped group row v [] = refl
chained-mapped group row v (link ∷ links) =
    chained-mapped group row (arithmetic_value link.operator v (value_in link.operand group row)) links

chosen-mapped : (group : Rows) (row : List Value) (operand : Option Value) (branches : List (Branch TypedExpr))
    → chosen (λ (part : Meaning). part group row) operand (map ((TheShapes.former-TypedExpr-Case-2-at-2).map TypedExpr Meaning value_in) branches)
    ≡ chosen (λ expr. value_in expr group row) operand branches
chosen-mapped group row operand [] = refl
chosen-mapped group row operand (branch ∷ branches) =
    ap (λ rest. if is_met operand (value_in branch.condition group row) then Some (value_in branch.value group row) else rest)
    (chosen-mapped group row operand branches)

mapped : (x : TypedExpr-F TypedExpr) (group : Rows) (row : List Value)
    → layer_value (at_part group) (map-TypedExpr TypedExpr Meaning value_in x) group row ≡ layer_value (at_expr group) x group row
mapped (TypedExpr-F.Column place kind) group row = refl
mapped (TypedExpr-F.Literal literal kind) group row = refl
mapped (TypedExpr-F.One function kind x) group row = refl
mapped (TypedExpr-F.Two function kind x y) group row = refl
mapped (TypedExpr-F.Three function kind x y z) group row = refl
mapped (TypedExpr-F.Many function kind arguments) group row =
    ap (many_value function) (map-map (λ (part : Meaning). part group row) value_in arguments)
mapped (TypedExpr-F.In x negated among) group row =
    ap (in_value negated (value_in x group row)) (map-map (λ (part : Meaning). part group row) value_in among)
mapped (TypedExpr-F.Chain kind first links) group row = chained-mapped group row (value_in first group row) links
mapped (TypedExpr-F.Case kind None branches None) group row =
    ap (λ found. or_else found (or_null None)) (chosen-mapped group row None branches)
mapped (TypedExpr-F.Case kind None branches (Some otherwise)) group row =
    ap (λ found. or_else found (value_in otherwise group row)) (chosen-mapped group row None branches)
mapped (TypedExpr-F.Case kind (Some operand) branches None) group row =
    ap (λ found. or_else found (or_null None)) (chosen-mapped group row (Some (value_in operand group row)) branches)
mapped (TypedExpr-F.Case kind (Some operand) branches (Some otherwise)) group row =
    ap (λ found. or_else found (value_in otherwise group row)) (chosen-mapped group row (Some (value_in operand group row)) branches)
mapped TypedExpr-F.CountRows group row = refl
mapped (TypedExpr-F.Aggregate function distinct kind argument) group row = refl

pub value_in-out : (expr : TypedExpr) (group : Rows) (row : List Value) → value_in expr group row ≡ layer_value (at_expr group) (out-TypedExpr expr) group row
unfolding value_in
value_in-out expr group row =
    ap (λ (meaning : Meaning). meaning group row)
    (fold_out-TypedExpr Meaning (λ layer group row. layer_value (λ part row. part group row) layer group row) expr)
    ∙ mapped (out-TypedExpr expr) group row

at : {expr : TypedExpr} {layer : TypedExpr-F TypedExpr} → expr ≡ roll-TypedExpr layer → out-TypedExpr (roll-TypedExpr layer) ≡ layer
    → (group : Rows) (row : List Value) → value_in expr group row ≡ layer_value (at_expr group) layer group row
at {expr = expr} {layer = layer} is opens group row =
    value_in-out expr group row ∙ ap (λ layer. layer_value (at_expr group) layer group row) (ap out-TypedExpr is ∙ opens)

pub value_in-Column : (place : ℕ) (kind : SqlType) (group : Rows) (row : List Value)
    → value_in (tree.Column place kind) group row ≡ taken_or_null kind (slice_get row place)
value_in-Column place kind group row = at (sym (rolls-Column place kind)) (out-roll-TypedExpr (TypedExpr-F.Column place kind)) group row

pub value_in-Literal : (literal : Value) (kind : SqlType) (group : Rows) (row : List Value) → value_in (tree.Literal literal kind) group row ≡ taken kind literal
value_in-Literal literal kind group row = at (sym (rolls-Literal literal kind)) (out-roll-TypedExpr (TypedExpr-F.Literal literal kind)) group row

pub value_in-One : (function : One) (kind : SqlType) (x : TypedExpr) (group : Rows) (row : List Value)
    → value_in (tree.One function kind x) group row ≡ one_value function kind (value_in x group row)
value_in-One function kind x group row = at (sym (rolls-One function kind x)) (out-roll-TypedExpr (TypedExpr-F.One function kind x)) group row

pub value_in-Two : (function : Two) (kind : SqlType) (x y : TypedExpr) (group : Rows) (row : List Value)
    → value_in (tree.Two function kind x y) group row ≡ two_value function kind (value_in x group row) (value_in y group row)
value_in-Two function kind x y group row = at (sym (rolls-Two function kind x y)) (out-roll-TypedExpr (TypedExpr-F.Two function kind x y)) group row

pub value_in-Three : (function : Three) (kind : SqlType) (x y z : TypedExpr) (group : Rows) (row : List Value)
    → value_in (tree.Three function kind x y z) group row ≡ three_value function (value_in x group row) (value_in y group row) (value_in z group row)
value_in-Three function kind x y z group row =
    at (sym (rolls-Three function kind x y z)) (out-roll-TypedExpr (TypedExpr-F.Three function kind x y z)) group row

pub value_in-Many : (function : Many) (kind : SqlType) (arguments : List TypedExpr) (group : Rows) (row : List Value)
    → value_in (tree.Many function kind arguments) group row ≡ many_value function (map (λ x. value_in x group row) arguments)
value_in-Many function kind arguments group row =
    at (sym (rolls-Many function kind arguments)) (out-roll-TypedExpr (TypedExpr-F.Many function kind arguments)) group row

pub value_in-In : (x : TypedExpr) (negated : Bool) (among : List TypedExpr) (group : Rows) (row : List Value)
    → value_in (tree.In x negated among) group row ≡ in_value negated (value_in x group row) (map (λ y. value_in y group row) among)
value_in-In x negated among group row = at (sym (rolls-In x negated among)) (out-roll-TypedExpr (TypedExpr-F.In x negated among)) group row

pub value_in-Chain : (kind : SqlType) (first : TypedExpr) (links : List (Link TypedExpr)) (group : Rows) (row : List Value)
    → value_in (tree.Chain kind first links) group row ≡ chained (λ x. value_in x group row) (value_in first group row) links
value_in-Chain kind first links group row =
    at (sym (rolls-Chain kind first links)) (out-roll-TypedExpr (TypedExpr-F.Chain kind first links)) group row

pub value_in-Case : (kind : SqlType) (operand : Option TypedExpr) (branches : List (Branch TypedExpr)) (otherwise : Option TypedExpr) (group : Rows) (row : List Value)
    → value_in (tree.Case kind operand branches otherwise) group row
    ≡ or_else (chosen (λ x. value_in x group row) (option_map (λ x. value_in x group row) operand) branches) (or_null (option_map (λ x. value_in x group row) otherwise))
value_in-Case kind operand branches otherwise group row =
    at (sym (rolls-Case kind operand branches otherwise)) (out-roll-TypedExpr (TypedExpr-F.Case kind operand branches otherwise)) group row

pub value_in-CountRows : (group : Rows) (row : List Value) → value_in tree.CountRows group row ≡ row_count group
value_in-CountRows group row = at (sym rolls-CountRows) (out-roll-TypedExpr TypedExpr-F.CountRows) group row

pub value_in-Aggregate : (function : Aggregate) (distinct : Bool) (kind : SqlType) (argument : TypedExpr) (group : Rows) (row : List Value)
    → value_in (tree.Aggregate function distinct kind argument) group row ≡ aggregate_value function distinct (map (value_in argument group) group)
value_in-Aggregate function distinct kind argument group row =
    at (sym (rolls-Aggregate function distinct kind argument)) (out-roll-TypedExpr (TypedExpr-F.Aggregate function distinct kind argument)) group row

-- ---- on a row alone

pub zero_wraps : int_wrap w64 (pos 0) ≡ pos 0
unfolding int_wrap
zero_wraps = refl

pub value_of-Column : (place : ℕ) (kind : SqlType) (row : List Value) → value_of (tree.Column place kind) row ≡ taken_or_null kind (slice_get row place)
unfolding value_of
value_of-Column place kind row = value_in-Column place kind [] row

pub value_of-Literal : (literal : Value) (kind : SqlType) (row : List Value) → value_of (tree.Literal literal kind) row ≡ taken kind literal
unfolding value_of
value_of-Literal literal kind row = value_in-Literal literal kind [] row

pub value_of-One : (function : One) (kind : SqlType) (x : TypedExpr) (row : List Value)
    → value_of (tree.One function kind x) row ≡ one_value function kind (value_of x row)
unfolding value_of
value_of-One function kind x row = value_in-One function kind x [] row

pub value_of-Two : (function : Two) (kind : SqlType) (x y : TypedExpr) (row : List Value)
    → value_of (tree.Two function kind x y) row ≡ two_value function kind (value_of x row) (value_of y row)
unfolding value_of
value_of-Two function kind x y row = value_in-Two function kind x y [] row

pub value_of-Three : (function : Three) (kind : SqlType) (x y z : TypedExpr) (row : List Value)
    → value_of (tree.Three function kind x y z) row ≡ three_value function (value_of x row) (value_of y row) (value_of z row)
unfolding value_of
value_of-Three function kind x y z row = value_in-Three function kind x y z [] row

pub value_of-Many : (function : Many) (kind : SqlType) (arguments : List TypedExpr) (row : List Value)
    → value_of (tree.Many function kind arguments) row ≡ many_value function (values_of arguments row)
unfolding value_of
value_of-Many function kind arguments row = value_in-Many function kind arguments [] row

pub value_of-In : (x : TypedExpr) (negated : Bool) (among : List TypedExpr) (row : List Value)
    → value_of (tree.In x negated among) row ≡ in_value negated (value_of x row) (values_of among row)
unfolding value_of
value_of-In x negated among row = value_in-In x negated among [] row

pub value_of-Chain : (kind : SqlType) (first : TypedExpr) (links : List (Link TypedExpr)) (row : List Value)
    → value_of (tree.Chain kind first links) row ≡ chained (λ x. value_of x row) (value_of first row) links
unfolding value_of
value_of-Chain kind first links row = value_in-Chain kind first links [] row

pub value_of-Case : (kind : SqlType) (operand : Option TypedExpr) (branches : List (Branch TypedExpr)) (otherwise : Option TypedExpr) (row : List Value)
    → value_of (tree.Case kind operand branches otherwise) row
    ≡ or_else (chosen (λ x. value_of x row) (option_map (λ x. value_of x row) operand) branches) (or_null (option_map (λ x. value_of x row) otherwise))
unfolding value_of
value_of-Case kind operand branches otherwise row = value_in-Case kind operand branches otherwise [] row

pub value_of-CountRows : (row : List Value) → value_of tree.CountRows row ≡ value.Big (pos 0)
unfolding value_of
value_of-CountRows row = value_in-CountRows [] row ∙ ap value.Big zero_wraps

pub value_of-Aggregate : (function : Aggregate) (distinct : Bool) (kind : SqlType) (argument : TypedExpr) (row : List Value)
    → value_of (tree.Aggregate function distinct kind argument) row ≡ aggregate_value function distinct []
unfolding value_of
value_of-Aggregate function distinct kind argument row = value_in-Aggregate function distinct kind argument [] row

pub ruleset equations = (value_of-Column, value_of-Literal, value_of-One, value_of-Two, value_of-Three, value_of-Many, value_of-In, value_of-Chain, value_of-Case, value_of-CountRows, value_of-Aggregate)

pub ruleset group_equations = (value_in-Column, value_in-Literal, value_in-One, value_in-Two, value_in-Three, value_in-Many, value_in-In, value_in-Chain, value_in-Case, value_in-CountRows, value_in-Aggregate)
