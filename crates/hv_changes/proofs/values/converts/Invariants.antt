use Rattle.std.proofs.Common.{◌≡◌, drop}
use Rattle.hv_typing.specs.Inserts.{converts}
use Rattle.hv_changes.proofs.values.converts.Given as goal

abbrev pub invariant-loop-expr : goal.invariant-loop-expr
invariant-loop-expr l = converts l.rest (drop l.expr-index l.row) ≡ converts l.columns l.row
