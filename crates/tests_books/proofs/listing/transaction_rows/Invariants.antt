use Rattle.std.proofs.Common.{◌≡◌, ◌+◌, ◌++◌, drop}
use Rattle.hv_history.specs.Shown.{each_from, transaction_rows}
use Rattle.tests_books.proofs.listing.transaction_rows.Given as goal

abbrev pub invariant-loop-at : goal.invariant-loop-at
invariant-loop-at l =
    l.rows.items ++ each_from (transaction_rows l.tables) (l.at + 1) (drop l.at l.transactions) ≡ each_from (transaction_rows l.tables) 1 l.transactions
