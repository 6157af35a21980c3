use Rattle.std.proofs.Common.{◌≡◌, map, take}
use Rattle.hv_typing.specs.Columns.{column_kind}
use Rattle.hv_changes.proofs.columns.column_kinds.Given as goal

abbrev pub invariant-loop-column : goal.invariant-loop-column
invariant-loop-column l = l.kinds.items ≡ map column_kind (take l.column-index l.columns)
