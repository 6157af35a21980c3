use Rattle.std.proofs.Common.{◌≡◌, map, take}
use Rattle.hv_typing.specs.Inserts.{output_kind}
use Rattle.hv_changes.proofs.queries.output_kinds.Given as goal

abbrev pub invariant-loop-column : goal.invariant-loop-column
invariant-loop-column l = l.kinds.items ≡ map output_kind (take l.column-index l.columns)
