use Rattle.std.proofs.Common.{◌≡◌, ◌++◌, List}
use Rattle.hv_expr.specs.declared.tree.TypedExpr.{TypedExpr}
use Rattle.hv_typing.specs.Queries.{items_as}
use Rattle.hv_select.proofs.unions.items_as.Given as goal

-- what was made, with what the rest gives, is the whole
abbrev pub invariant-loop-item : goal.invariant-loop-item
invariant-loop-item l =
    (more : List TypedExpr) → l.made.items ++ items_as l.rest more ≡ items_as l.initial.rest (l.yielded ++ more)
