use Rattle.std.proofs.Common.{◌≡◌, ◌++◌, map}
use Rattle.hv_table_rows.specs.Orders.{found_in}
use Rattle.hv_table_rows.proofs.single.placed.Given as goal

abbrev pub invariant-loop-found : goal.invariant-loop-found
invariant-loop-found l = map found_in l.placed.items ++ l.found-iterator.rest.items ≡ l.fn.rows.items
