use Rattle.std.proofs.Common.{◌≡◌, ◌++◌, map, drop}
use Rattle.hv_history.specs.Shown.{lock_row}
use Rattle.hv_showing.proofs.locks.put_locks.Given as goal

abbrev pub invariant-loop-lock : goal.invariant-loop-lock
invariant-loop-lock l =
    l.rows.items ++ map (lock_row l.txn l.locks) (drop l.lock-index l.locks) ≡ l.fn.rows.items ++ map (lock_row l.txn l.locks) l.locks
