use Rattle.std.proofs.Common.{◌≡◌, ◌+◌, ◌++◌, drop}
use Rattle.hv_history.specs.Shown.{each_from, inserted_of}
use Rattle.tests_books.proofs.listing.inserted_rows.Given as goal

abbrev pub invariant-loop-at : goal.invariant-loop-at
invariant-loop-at l =
    l.rows.items ++ each_from (inserted_of l.table) (l.at + 1) (drop l.at l.transactions) ≡ each_from (inserted_of l.table) 1 l.transactions
