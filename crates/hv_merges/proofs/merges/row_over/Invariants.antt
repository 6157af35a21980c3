use Rattle.std.proofs.Common.{◌≡◌, drop}
use Rattle.hv_typing.specs.Merges.{row_over}
use Rattle.hv_typing.specs.Selects.{behind}
use Rattle.hv_merges.proofs.merges.row_over.Given as goal

abbrev pub invariant-loop-expr : goal.invariant-loop-expr
invariant-loop-expr l = behind l.row.items (row_over l.fields (drop l.expr-index l.exprs)) ≡ row_over l.fields l.exprs
