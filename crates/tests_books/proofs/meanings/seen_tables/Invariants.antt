use Rattle.std.proofs.Common.{◌≡◌, take}
use Rattle.hv_history.specs.State.{seen_tables}
use Rattle.tests_books.proofs.meanings.seen_tables.Given as goal

abbrev pub invariant-loop-table : goal.invariant-loop-table
invariant-loop-table l = l.seen.items ≡ seen_tables (take l.table-index l.tables)
