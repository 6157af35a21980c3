-- The value of each kind of expression, as the walks find it.
use Rattle.std.proofs.Common.{◌≡◌, Bool, List, Option}
use Rattle.hv_expr.specs.declared.function.Many.{Many}
use Rattle.hv_expr.specs.Functions.{many_value, in_value}
use Rattle.hv_value.specs.declared.sql_type.SqlType.{SqlType}
use Rattle.hv_expr.specs.declared.tree.Branch.{Branch}
use Rattle.hv_expr.specs.declared.tree.Link.{Link}
use Rattle.hv_expr.specs.declared.tree.TypedExpr.{TypedExpr}
use Rattle.hv_expr.specs.declared.tree.TypedExpr.TheVariants as tree
use Rattle.hv_expr.specs.Evaluation.{value_in}
use Rattle.hv_expr.proofs.Equations.{value_in-Column, value_in-Literal, value_in-One, value_in-Two, value_in-Three, value_in-Many, value_in-In, value_in-Chain, value_in-Case, value_in-CountRows, value_in-Aggregate}
use Rattle.hv_eval.specs.declared.frame.Scope.{Scope}
use Rattle.hv_eval.specs.Frames.{value_at, values_at, row_of, group_of}
use Rattle.hv_eval.specs.Walks.{chain_value, chosen_value, optional_value, settled_value}

pub value_at-chain : (kind : SqlType) (first : TypedExpr) (links : List (Link TypedExpr)) (at : Scope)
    → value_in (tree.Chain kind first links) (group_of at) (row_of at) ≡ chain_value links at (value_at at first)
unfolding chain_value
value_at-chain kind first links at = value_in-Chain kind first links (group_of at) (row_of at)

pub value_at-case : (kind : SqlType) (operand : Option TypedExpr) (branches : List (Branch TypedExpr)) (otherwise : Option TypedExpr) (at : Scope)
    → value_in (tree.Case kind operand branches otherwise) (group_of at) (row_of at)
    ≡ settled_value (chosen_value branches at (optional_value operand at)) (optional_value otherwise at)
unfolding chosen_value optional_value settled_value
value_at-case kind operand branches otherwise at = value_in-Case kind operand branches otherwise (group_of at) (row_of at)

pub value_at-many : (function : Many) (kind : SqlType) (arguments : List TypedExpr) (at : Scope)
    → value_in (tree.Many function kind arguments) (group_of at) (row_of at) ≡ many_value function (values_at arguments at)
value_at-many function kind arguments at = value_in-Many function kind arguments (group_of at) (row_of at)

pub value_at-in : (x : TypedExpr) (negated : Bool) (among : List TypedExpr) (at : Scope)
    → value_in (tree.In x negated among) (group_of at) (row_of at) ≡ in_value negated (value_at at x) (values_at among at)
value_at-in x negated among at = value_in-In x negated among (group_of at) (row_of at)

pub ruleset nodes = (value_in-Column, value_in-Literal, value_in-One, value_in-Two, value_in-Three, value_at-many, value_at-in, value_at-chain, value_at-case, value_in-CountRows, value_in-Aggregate)
