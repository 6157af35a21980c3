use Rattle.std.proofs.Common.{◌≡◌, drop}
use Rattle.hv_typing.specs.Selects.{behind}
use Rattle.hv_typing.specs.Inserts.{values_for}
use Rattle.hv_changes.proofs.inserts.values_for.Given as goal

abbrev pub invariant-loop-column : goal.invariant-loop-column
invariant-loop-column l = behind l.made.items (values_for l.items l.targets l.kinds (drop l.column-index l.columns)) ≡ values_for l.items l.targets l.kinds l.columns
