use Rattle.std.proofs.Common.{◌≡◌, ◌+◌, ◌++◌, drop}
use Rattle.hv_history.specs.Shown.{each_from, lock_rows}
use Rattle.tests_books.proofs.listing.lock_rows.Given as goal

abbrev pub invariant-loop-at : goal.invariant-loop-at
invariant-loop-at l =
    l.rows.items ++ each_from lock_rows (l.at + 1) (drop l.at l.transactions) ≡ each_from lock_rows 1 l.transactions
