use Rattle.std.proofs.Common.{◌≡◌, ◌++◌, take}
use Rattle.hv_table_rows.proofs.rows.row_with.Given as goal

abbrev pub invariant-loop-value : goal.invariant-loop-value
invariant-loop-value l = l.all.items ≡ l.initial.all.items ++ take l.value-index l.values
