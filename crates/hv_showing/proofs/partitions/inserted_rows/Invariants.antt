use Rattle.std.proofs.Common.{◌≡◌, ◌+◌, ◌++◌, drop}
use Rattle.hv_history.specs.Shown.{each_from, inserted_of}
use Rattle.hv_showing.specs.Fronts.{transactions_then}
use Rattle.hv_showing.proofs.partitions.inserted_rows.Given as goal

abbrev pub invariant-loop-i : goal.invariant-loop-i
invariant-loop-i l =
    l.rows.items ++ each_from (inserted_of l.table) (l.i + 1) (drop l.i (transactions_then l.book.entries l.front.position))
    ≡ each_from (inserted_of l.table) 1 (transactions_then l.book.entries l.front.position)
