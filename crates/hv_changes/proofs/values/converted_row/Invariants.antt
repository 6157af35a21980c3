use Rattle.std.proofs.Common.{◌≡◌, ◌++◌, List}
use Rattle.hv_expr.specs.declared.tree.TypedExpr.{TypedExpr}
use Rattle.hv_typing.specs.Inserts.{converted_row}
use Rattle.hv_changes.proofs.values.converted_row.Given as goal

-- what was made, with what the rest gives, is the whole
abbrev pub invariant-loop-expr : goal.invariant-loop-expr
invariant-loop-expr l =
    (more : List TypedExpr) → l.made.items ++ converted_row l.rest more ≡ converted_row l.initial.rest (l.yielded ++ more)
