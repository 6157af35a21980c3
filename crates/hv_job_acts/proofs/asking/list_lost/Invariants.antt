use Rattle.std.proofs.Common.{◌≡◌, ◌+◌, ◌++◌, length, drop}
use Rattle.hv_history.specs.State.{state_of}
use Rattle.hv_job_acts.specs.Work.{each_of, lost_of, lost_in}
use Rattle.hv_job_acts.proofs.asking.list_lost.Given as goal

abbrev pub invariant-loop-i : goal.invariant-loop-i
invariant-loop-i l =
    l.ids.items ++ each_of (lost_of (state_of l.book.entries)) (l.i + 1) (length (drop l.i (state_of l.book.entries).tables))
    ≡ lost_in (state_of l.book.entries)
