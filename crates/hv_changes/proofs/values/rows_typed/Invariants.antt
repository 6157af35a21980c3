use Rattle.std.proofs.Common.{◌≡◌, drop}
use Rattle.hv_typing.specs.Inserts.{rows_typed}
use Rattle.hv_typing.specs.Selects.{behind}
use Rattle.hv_changes.proofs.values.rows_typed.Given as goal

abbrev pub invariant-loop-row : goal.invariant-loop-row
invariant-loop-row l = behind l.typed.items (rows_typed (drop l.row-index l.rows)) ≡ rows_typed l.rows
