use Rattle.std.proofs.Common.{◌≡◌, drop}
use Rattle.hv_history.specs.Shown.{number_named}
use Rattle.tests_books.proofs.listing.number_named.Given as goal

abbrev pub invariant-loop-table : goal.invariant-loop-table
invariant-loop-table l = number_named l.name (drop l.table-index l.tables) ≡ number_named l.name l.tables
