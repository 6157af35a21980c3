use Rattle.std.proofs.Common.{◌≡◌, drop}
use Rattle.hv_typing.specs.Targets.{are_static}
use Rattle.hv_changes.proofs.partitions.are_static.Given as goal

abbrev pub invariant-loop-column : goal.invariant-loop-column
invariant-loop-column l = are_static l.items (drop l.column-index l.columns) ≡ are_static l.items l.columns
