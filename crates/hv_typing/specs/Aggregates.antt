-- Which expressions have an aggregate in them, as they are written.
-- Source: Hive Language Manual, built-in aggregate functions.
use Rattle.std.specs.Prelude.{Bool, true, false, ◌||◌, List, Option, None, Some}
use Rattle.std.specs.List.{list_any}
use Rattle.hv_logic.specs.hv_ast.specs.declared.expr.Expr.{Expr}
use Rattle.hv_logic.specs.hv_ast.specs.declared.expr.Expr.TheOpen.{Expr-F}
use Rattle.hv_logic.specs.hv_ast.specs.declared.expr.Expr.TheFolds.{fold-Expr}
use Rattle.hv_logic.specs.hv_ast.specs.declared.expr.Operation.{Operation}
use Rattle.hv_logic.specs.hv_ast.specs.declared.expr.When.{When}
use Rattle.hv_typing.specs.declared.names.Function.{Function}
use Rattle.hv_typing.specs.declared.names.Function.TheVariants as function
use Rattle.hv_typing.specs.Calls.{function_named}

abbrev pub aggregates : Option Function → Bool
aggregates (Some (function.Aggregate aggregate)) = true
aggregates _ = false

module _ {A : Type 0} (part : A → Bool) where
  abbrev pub in_operation : Operation A → Bool
  in_operation operation = part operation.operand

  abbrev pub in_when : When A → Bool
  in_when when = part when.condition || part when.value

  unfoldable pub in_some : Option A → Bool
  in_some None = false
  in_some (Some x) = part x

  unfoldable pub in_any : List A → Bool
  in_any xs = list_any part xs

  unfoldable pub in_operations : List (Operation A) → Bool
  in_operations operations = list_any in_operation operations

  unfoldable pub in_whens : List (When A) → Bool
  in_whens whens = list_any in_when whens

  -- where its parts have one
  abbrev pub layer_aggregates : Expr-F A → Bool
  layer_aggregates (Expr-F.Or xs) = in_any xs
  layer_aggregates (Expr-F.And xs) = in_any xs
  layer_aggregates (Expr-F.Unary unary x) = part x
  layer_aggregates (Expr-F.Binary binary x y) = part x || part y
  layer_aggregates (Expr-F.Chain first operations) = part first || in_operations operations
  layer_aggregates (Expr-F.Between x negated low high) = part x || (part low || part high)
  layer_aggregates (Expr-F.In x negated among) = part x || in_any among
  layer_aggregates (Expr-F.Literal literal) = false
  layer_aggregates (Expr-F.Column source name) = false
  layer_aggregates (Expr-F.Case operand whens otherwise) = (in_some operand || in_whens whens) || in_some otherwise
  layer_aggregates (Expr-F.Cast x name) = part x
  layer_aggregates Expr-F.CountRows = true
  layer_aggregates (Expr-F.Call name distinct arguments) = aggregates (function_named name) || in_any arguments

unfoldable pub has_aggregate : Expr → Bool
has_aggregate = fold-Expr Bool (layer_aggregates (λ part. part))
