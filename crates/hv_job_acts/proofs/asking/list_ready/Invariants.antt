use Rattle.std.proofs.Common.{◌≡◌, ◌+◌, ◌++◌, length, drop}
use Rattle.hv_history.specs.State.{state_of}
use Rattle.hv_job_acts.specs.Work.{each_of, ready_at, ready_in}
use Rattle.hv_job_acts.proofs.asking.list_ready.Given as goal

abbrev pub invariant-loop-i : goal.invariant-loop-i
invariant-loop-i l =
    l.jobs.items ++ each_of (ready_at (state_of l.book.entries)) (l.i + 1) (length (drop l.i (state_of l.book.entries).jobs))
    ≡ ready_in (state_of l.book.entries)
