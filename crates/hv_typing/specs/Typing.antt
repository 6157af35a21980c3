-- The typed expression, or its first fault: inside out from the left, and at one node a name (NoColumn, Ambiguous), an
-- unknown function (NoColumn), the number of arguments (BadCount), types (BadType), an aggregate that may not stand
-- there (NotGrouped). Source: Hive Language Manual, Select and UDFs; the order of faults is this project's profile.
use Rattle.std.specs.Prelude.{ℕ, Bool, true, false, List, Option, None, Some, Result, Ok, Err}
use Rattle.hv_base.specs.declared.refusal.Refusal.{Refusal}
use Rattle.hv_logic.specs.hv_ast.specs.declared.expr.Expr.{Expr}
use Rattle.hv_logic.specs.hv_ast.specs.declared.expr.Expr.TheOpen.{Expr-F}
use Rattle.hv_logic.specs.hv_ast.specs.declared.expr.Expr.TheFolds.{fold-Expr}
use Rattle.hv_logic.specs.hv_ast.specs.declared.expr.Operation.{Operation}
use Rattle.hv_logic.specs.hv_ast.specs.declared.expr.When.{When}
use Rattle.hv_logic.specs.Shapes.{type_of}
use Rattle.hv_expr.specs.declared.function.Many.TheVariants as many
use Rattle.hv_expr.specs.declared.function.Three.{Three}
use Rattle.hv_expr.specs.declared.function.Three.TheVariants as three
use Rattle.hv_expr.specs.declared.tree.Branch.{Branch}
use Rattle.hv_expr.specs.declared.tree.Link.{Link}
use Rattle.hv_expr.specs.declared.tree.TypedExpr.{TypedExpr}
use Rattle.hv_expr.specs.declared.tree.TypedExpr.TheVariants as tree
use Rattle.hv_typing.specs.declared.scope.Field.{Field}
use Rattle.hv_typing.specs.declared.scope.Over.{Over}
use Rattle.hv_typing.specs.declared.places.Place.TheVariants as place
use Rattle.hv_typing.specs.Faults.{and_then, each_in_order}
use Rattle.hv_typing.specs.Scopes.{column_typed}
use Rattle.hv_typing.specs.Nodes.{cast_typed, literal_typed, one_typed, unary_of, two_typed, binary_of, three_typed, many_typed, arithmetic_of, link_of, chain_typed, in_typed, branch_of, case_typed, aggregated, placed}
use Rattle.hv_typing.specs.Calls.{function_named, arguments_over, call_typed}

abbrev pub between_three : Bool → Three
between_three false = three.Between
between_three true = three.NotBetween

-- the parts of a node, in their order, where a part is typed so
abbrev pub link_typed : {A : Type 0} → (A → Over → Result TypedExpr Refusal) → Over → Operation A → Result (Link TypedExpr) Refusal
link_typed part over operation =
    and_then (part operation.operand over) (λ x. Ok (link_of (arithmetic_of operation.operator) x))

abbrev pub when_typed : {A : Type 0} → (A → Over → Result TypedExpr Refusal) → Over → When A → Result (Branch TypedExpr) Refusal
when_typed part over when =
    and_then (part when.condition over) (λ condition. and_then (part when.value over) (λ x. Ok (branch_of condition x)))

unfoldable pub all_typed : {A : Type 0} → (A → Over → Result TypedExpr Refusal) → List A → Over → Result (List TypedExpr) Refusal
all_typed part xs over = each_in_order (λ x. part x over) xs

unfoldable pub links_typed : {A : Type 0} → (A → Over → Result TypedExpr Refusal) → List (Operation A) → Over → Result (List (Link TypedExpr)) Refusal
links_typed part operations over = each_in_order (link_typed part over) operations

unfoldable pub whens_typed : {A : Type 0} → (A → Over → Result TypedExpr Refusal) → List (When A) → Over → Result (List (Branch TypedExpr)) Refusal
whens_typed part whens over = each_in_order (when_typed part over) whens

unfoldable pub optional_typed : {A : Type 0} → (A → Over → Result TypedExpr Refusal) → Option A → Over → Result (Option TypedExpr) Refusal
optional_typed part None over = Ok None
optional_typed part (Some x) over = and_then (part x over) (λ x. Ok (Some x))

-- the arguments come before the function's name
unfoldable pub called : {A : Type 0} → (A → Over → Result TypedExpr Refusal) → List ℕ → Bool → List A → Over → Result TypedExpr Refusal
called part name distinct arguments over =
    and_then (all_typed part arguments (arguments_over (function_named name) over))
    (call_typed (function_named name) distinct over)

unfoldable pub cased
    : {A : Type 0} → (A → Over → Result TypedExpr Refusal) → Option A → List (When A) → Option A → Over → Result TypedExpr Refusal
cased part operand whens otherwise over =
    and_then (optional_typed part operand over) (λ operand.
    and_then (whens_typed part whens over) (λ branches.
    and_then (optional_typed part otherwise over) (λ otherwise. case_typed operand branches otherwise)))

-- an expression over a row or a group, where its parts are typed so
abbrev pub layer_typed : {A : Type 0} → (A → Over → Result TypedExpr Refusal) → List Field → Expr-F A → Over → Result TypedExpr Refusal
layer_typed part scope (Expr-F.Or xs) over = and_then (all_typed part xs over) (many_typed many.Or)
layer_typed part scope (Expr-F.And xs) over = and_then (all_typed part xs over) (many_typed many.And)
layer_typed part scope (Expr-F.Unary unary x) over = and_then (part x over) (one_typed (unary_of unary))
layer_typed part scope (Expr-F.Binary binary x y) over =
    and_then (part x over) (λ x. and_then (part y over) (λ y. two_typed (binary_of binary) x y))
layer_typed part scope (Expr-F.Chain first operations) over =
    and_then (part first over) (λ first. and_then (links_typed part operations over) (λ links. chain_typed first links))
layer_typed part scope (Expr-F.Between x negated low high) over =
    and_then (part x over) (λ x.
    and_then (part low over) (λ low. and_then (part high over) (λ high. three_typed (between_three negated) x low high)))
layer_typed part scope (Expr-F.In x negated among) over =
    and_then (part x over) (λ x. and_then (all_typed part among over) (λ among. in_typed x negated among))
layer_typed part scope (Expr-F.Literal literal) over = literal_typed literal
layer_typed part scope (Expr-F.Column source name) over = column_typed 0 source name scope
layer_typed part scope (Expr-F.Case operand whens otherwise) over = cased part operand whens otherwise over
layer_typed part scope (Expr-F.Cast x name) over = and_then (part x over) (cast_typed (type_of name))
layer_typed part scope Expr-F.CountRows over = aggregated over tree.CountRows
layer_typed part scope (Expr-F.Call name distinct arguments) over = called part name distinct arguments over

unfoldable pub typed : List Field → Expr → Over → Result TypedExpr Refusal
typed scope = fold-Expr (Over → Result TypedExpr Refusal) (layer_typed (λ part over. part over) scope)

-- a condition is BOOLEAN or NULL
abbrev pub condition_of : List Field → Expr → Over → Result TypedExpr Refusal
condition_of scope expr over = and_then (typed scope expr over) (placed place.Truth)
