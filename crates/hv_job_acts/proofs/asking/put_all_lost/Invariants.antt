use Rattle.std.proofs.Common.{◌≡◌, ◌+◌, ◌++◌, length, drop}
use Rattle.hv_history.specs.State.{state_of, numbered}
use Rattle.hv_history.specs.Jobs.{ids_of}
use Rattle.hv_job_acts.specs.Work.{each_of, lost_at, lost_of}
use Rattle.hv_job_acts.proofs.asking.put_all_lost.Given as goal

abbrev pub invariant-loop-i : goal.invariant-loop-i
invariant-loop-i l =
    l.ids.items
    ++ each_of (lost_at (state_of l.book.entries) l.table) (l.i + 1)
    (length (drop l.i (ids_of (numbered (state_of l.book.entries).tables l.table))))
    ≡ l.fn.ids.items ++ lost_of (state_of l.book.entries) l.table
