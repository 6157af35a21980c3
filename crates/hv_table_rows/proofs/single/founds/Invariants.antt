use Rattle.std.proofs.Common.{◌≡◌, ◌++◌, map}
use Rattle.hv_table_rows.specs.Orders.{found_in}
use Rattle.hv_table_rows.proofs.single.founds.Given as goal

abbrev pub invariant-loop-row : goal.invariant-loop-row
invariant-loop-row l = l.founds.items ++ map found_in l.row-iterator.rest.items ≡ map found_in l.fn.rows.items
