use Rattle.std.proofs.Common.{◌≡◌, drop}
use Rattle.hv_history.specs.State.{tables_behind}
use Rattle.tests_books.proofs.tables.write_all.Given as goal

abbrev pub invariant-loop-table : goal.invariant-loop-table
invariant-loop-table l = tables_behind l.writes l.initial.tables.items ≡ tables_behind (drop l.table-index l.writes) l.tables.items
