use Rattle.std.proofs.Common.{◌≡◌, drop}
use Rattle.hv_typing.specs.Targets.{are_listed}
use Rattle.hv_changes.proofs.targets.are_listed.Given as goal

abbrev pub invariant-loop-column : goal.invariant-loop-column
invariant-loop-column l = are_listed l.names (drop l.column-index l.columns) ≡ are_listed l.names l.columns
