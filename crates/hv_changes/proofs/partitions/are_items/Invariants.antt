use Rattle.std.proofs.Common.{◌≡◌, drop}
use Rattle.hv_typing.specs.Targets.{are_items}
use Rattle.hv_changes.proofs.partitions.are_items.Given as goal

abbrev pub invariant-loop-column : goal.invariant-loop-column
invariant-loop-column l = are_items l.items (drop l.column-index l.columns) ≡ are_items l.items l.columns
