use Rattle.std.proofs.Common.{◌≡◌, ◌+◌, ◌++◌, drop}
use Rattle.hv_history.specs.Shown.{each_from, transaction_rows}
use Rattle.hv_showing.specs.Fronts.{tables_then, transactions_then}
use Rattle.hv_showing.proofs.transactions.transactions_at.Given as goal

abbrev pub invariant-loop-i : goal.invariant-loop-i
invariant-loop-i l =
    l.rows.items ++ each_from (transaction_rows (tables_then l.book.entries l.front.position)) (l.i + 1) (drop l.i (transactions_then l.book.entries l.front.position))
    ≡ each_from (transaction_rows (tables_then l.book.entries l.front.position)) 1 (transactions_then l.book.entries l.front.position)
