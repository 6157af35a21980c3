use Rattle.std.proofs.Common.{◌≡◌, drop}
use Rattle.hv_typing.specs.Inserts.{row_typed}
use Rattle.hv_typing.specs.Selects.{behind}
use Rattle.hv_changes.proofs.values.row_typed.Given as goal

abbrev pub invariant-loop-expr : goal.invariant-loop-expr
invariant-loop-expr l = behind l.row.items (row_typed (drop l.expr-index l.exprs)) ≡ row_typed l.exprs
