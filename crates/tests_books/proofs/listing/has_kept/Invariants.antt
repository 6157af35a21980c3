use Rattle.std.proofs.Common.{◌≡◌, drop}
use Rattle.std.specs.List.{list_any}
use Rattle.hv_history.specs.Shown.{is_kept}
use Rattle.tests_books.proofs.listing.has_kept.Given as goal

abbrev pub invariant-loop-table : goal.invariant-loop-table
invariant-loop-table l = list_any (is_kept l.tables) (drop l.table-index l.given) ≡ list_any (is_kept l.tables) l.given
