use Rattle.std.proofs.Common.{◌≡◌, map}
use Rattle.hv_typing.specs.Inserts.{converted_row}
use Rattle.hv_changes.proofs.values.converted_rows.Given as goal

abbrev pub invariant-loop-row : goal.invariant-loop-row
invariant-loop-row l = l.made.items ≡ map (converted_row l.columns) l.yielded
