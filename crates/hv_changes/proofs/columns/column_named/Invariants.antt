use Rattle.std.proofs.Common.{◌≡◌, drop}
use Rattle.hv_typing.specs.Targets.{column_named}
use Rattle.hv_changes.proofs.columns.column_named.Given as goal

abbrev pub invariant-loop-column : goal.invariant-loop-column
invariant-loop-column l = column_named l.name (drop l.column-index l.columns) ≡ column_named l.name l.columns
