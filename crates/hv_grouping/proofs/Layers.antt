-- The equations of `has_aggregate`.
use Rattle.std.proofs.Common.{◌≡◌, ℕ, Bool, true, false, ◌||◌, List, [], ◌∷◌, map, Option, Some, None, option_map, refl, sym, ap, ◌∙◌}
use Rattle.hv_ast.specs.declared.expr.Binary.{Binary}
use Rattle.hv_ast.specs.declared.expr.Unary.{Unary}
use Rattle.hv_ast.specs.declared.expr.Literal.{Literal}
use Rattle.hv_ast.specs.declared.expr.Operation.{Operation}
use Rattle.hv_ast.specs.declared.expr.When.{When}
use Rattle.hv_ast.specs.declared.types.TypeName.{TypeName}
use Rattle.hv_ast.specs.declared.expr.Expr.{Expr}
use Rattle.hv_ast.specs.declared.expr.Expr.TheOpen.{Expr-F}
use Rattle.hv_ast.specs.declared.expr.Expr.TheViews.{out-Expr, roll-Expr, out-roll-Expr}
use Rattle.hv_ast.specs.declared.expr.Expr.TheFolds.{fold_out-Expr, map-Expr}
use Rattle.hv_ast.specs.declared.expr.Expr.TheShapes
use Rattle.hv_ast.specs.declared.expr.Expr.TheVariants as expr
use Rattle.hv_ast.specs.declared.expr.Expr.TheVariants.{rolls-Or, rolls-And, rolls-Unary, rolls-Binary, rolls-Chain, rolls-Between, rolls-In, rolls-Literal, rolls-Column, rolls-Case, rolls-Cast, rolls-CountRows, rolls-Call}
use Rattle.hv_typing.specs.Calls.{function_named}
use Rattle.hv_typing.specs.Aggregates.{aggregates, in_when, in_some, in_any, in_operations, in_whens, layer_aggregates, has_aggregate}

abbrev itself : Bool → Bool
itself part = part

any-mapped : (xs : List Expr) → in_any itself (map has_aggregate xs) ≡ in_any has_aggregate xs
unfolding in_any
any-mapped [] = refl
any-mapped (x ∷ xs) = ap (λ rest. has_aggregate x || rest) (any-mapped xs)

operations-mapped : (operations : List (Operation Expr))
    → in_operations itself (map ((TheShapes.former-Expr-Chain-1-at-2).map Expr Bool has_aggregate) operations) ≡ in_operations has_aggregate operations
unfolding in_operations
operations-mapped [] = refl
operations-mapped (operation ∷ operations) = ap (λ rest. has_aggregate operation.operand || rest) (operations-mapped operations)

whens-mapped : (whens : List (When Expr)) → in_whens itself (map ((TheShapes.former-Expr-Case-1-at-2).map Expr Bool has_aggregate) whens) ≡ in_whens has_aggregate whens
unfolding in_whens
whens-mapped [] = refl
whens-mapped (when ∷ whens) = ap (λ rest. in_when has_aggregate when || rest) (whens-mapped whens)

some-mapped : (x : Option Expr) → in_some itself (option_map has_aggregate x) ≡ in_some has_aggregate x
unfolding in_some
some-mapped None = refl
some-mapped (Some x) = refl

case-mapped : (operand : Option Expr) (whens : List (When Expr)) (otherwise : Option Expr)
    → ((in_some itself (option_map has_aggregate operand) || in_whens itself (map ((TheShapes.former-Expr-Case-1-at-2).map Expr Bool has_aggregate) whens))
    || in_some itself (option_map has_aggregate otherwise))
    ≡ ((in_some has_aggregate operand || in_whens has_aggregate whens) || in_some has_aggregate otherwise)
case-mapped operand whens otherwise = λ i. (some-mapped operand i || whens-mapped whens i) || some-mapped otherwise i

mapped : (x : Expr-F Expr) → layer_aggregates itself (map-Expr Expr Bool has_aggregate x) ≡ layer_aggregates has_aggregate x
mapped (Expr-F.Or xs) = any-mapped xs
mapped (Expr-F.And xs) = any-mapped xs
mapped (Expr-F.Unary unary x) = refl
mapped (Expr-F.Binary binary x y) = refl
mapped (Expr-F.Chain first operations) = ap (λ rest. has_aggregate first || rest) (operations-mapped operations)
mapped (Expr-F.Between x negated low high) = refl
mapped (Expr-F.In x negated among) = ap (λ rest. has_aggregate x || rest) (any-mapped among)
mapped (Expr-F.Literal literal) = refl
mapped (Expr-F.Column source name) = refl
mapped (Expr-F.Case None whens None) = case-mapped None whens None
mapped (Expr-F.Case None whens (Some x)) = case-mapped None whens (Some x)
mapped (Expr-F.Case (Some operand) whens None) = case-mapped (Some operand) whens None
mapped (Expr-F.Case (Some operand) whens (Some x)) = case-mapped (Some operand) whens (Some x)
mapped (Expr-F.Cast x name) = refl
mapped Expr-F.CountRows = refl
mapped (Expr-F.Call name distinct arguments) = ap (λ rest. aggregates (function_named name) || rest) (any-mapped arguments)

has-out : (e : Expr) → has_aggregate e ≡ layer_aggregates has_aggregate (out-Expr e)
unfolding has_aggregate
has-out e = fold_out-Expr Bool (layer_aggregates (λ part. part)) e ∙ mapped (out-Expr e)

at : {e : Expr} {layer : Expr-F Expr} → e ≡ roll-Expr layer → out-Expr (roll-Expr layer) ≡ layer → has_aggregate e ≡ layer_aggregates has_aggregate layer
at {e = e} is opens = has-out e ∙ ap (layer_aggregates has_aggregate) (ap out-Expr is ∙ opens)

pub has-Or : (xs : List Expr) → has_aggregate (expr.Or xs) ≡ in_any has_aggregate xs
has-Or xs = at (sym (rolls-Or xs)) (out-roll-Expr (Expr-F.Or xs))

pub has-And : (xs : List Expr) → has_aggregate (expr.And xs) ≡ in_any has_aggregate xs
has-And xs = at (sym (rolls-And xs)) (out-roll-Expr (Expr-F.And xs))

pub has-Unary : (unary : Unary) (x : Expr) → has_aggregate (expr.Unary unary x) ≡ has_aggregate x
has-Unary unary x = at (sym (rolls-Unary unary x)) (out-roll-Expr (Expr-F.Unary unary x))

pub has-Binary : (binary : Binary) (x y : Expr) → has_aggregate (expr.Binary binary x y) ≡ (has_aggregate x || has_aggregate y)
has-Binary binary x y = at (sym (rolls-Binary binary x y)) (out-roll-Expr (Expr-F.Binary binary x y))

pub has-Chain : (first : Expr) (operations : List (Operation Expr)) → has_aggregate (expr.Chain first operations) ≡ (has_aggregate first || in_operations has_aggregate operations)
has-Chain first operations = at (sym (rolls-Chain first operations)) (out-roll-Expr (Expr-F.Chain first operations))

pub has-Between : (x : Expr) (negated : Bool) (low high : Expr) → has_aggregate (expr.Between x negated low high) ≡ (has_aggregate x || (has_aggregate low || has_aggregate high))
has-Between x negated low high = at (sym (rolls-Between x negated low high)) (out-roll-Expr (Expr-F.Between x negated low high))

pub has-In : (x : Expr) (negated : Bool) (among : List Expr) → has_aggregate (expr.In x negated among) ≡ (has_aggregate x || in_any has_aggregate among)
has-In x negated among = at (sym (rolls-In x negated among)) (out-roll-Expr (Expr-F.In x negated among))

pub has-Literal : (literal : Literal) → has_aggregate (expr.Literal literal) ≡ false
has-Literal literal = at (sym (rolls-Literal literal)) (out-roll-Expr (Expr-F.Literal literal))

pub has-Column : (source : Option (List ℕ)) (name : List ℕ) → has_aggregate (expr.Column source name) ≡ false
has-Column source name = at (sym (rolls-Column source name)) (out-roll-Expr (Expr-F.Column source name))

pub has-Case : (operand : Option Expr) (whens : List (When Expr)) (otherwise : Option Expr) → has_aggregate (expr.Case operand whens otherwise) ≡ ((in_some has_aggregate operand || in_whens has_aggregate whens) || in_some has_aggregate otherwise)
has-Case operand whens otherwise = at (sym (rolls-Case operand whens otherwise)) (out-roll-Expr (Expr-F.Case operand whens otherwise))

pub has-Cast : (x : Expr) (name : TypeName) → has_aggregate (expr.Cast x name) ≡ has_aggregate x
has-Cast x name = at (sym (rolls-Cast x name)) (out-roll-Expr (Expr-F.Cast x name))

pub has-CountRows : has_aggregate expr.CountRows ≡ true
has-CountRows = at (sym rolls-CountRows) (out-roll-Expr Expr-F.CountRows)

pub has-Call : (name : List ℕ) (distinct : Bool) (arguments : List Expr) → has_aggregate (expr.Call name distinct arguments) ≡ (aggregates (function_named name) || in_any has_aggregate arguments)
has-Call name distinct arguments = at (sym (rolls-Call name distinct arguments)) (out-roll-Expr (Expr-F.Call name distinct arguments))

pub ruleset layers = (has-Or, has-And, has-Unary, has-Binary, has-Chain, has-Between, has-In, has-Literal, has-Column, has-Case, has-Cast, has-CountRows, has-Call)
