use Rattle.std.proofs.Common.{◌≡◌, take}
use Rattle.hv_history.specs.Shown.{table_rows}
use Rattle.tests_books.proofs.listing.table_rows.Given as goal

abbrev pub invariant-loop-table : goal.invariant-loop-table
invariant-loop-table l = l.rows.items ≡ table_rows (take l.table-index l.tables)
