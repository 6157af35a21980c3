use Rattle.std.proofs.Common.{◌≡◌, ◌+◌, ◌++◌, length, drop}
use Rattle.hv_history.specs.State.{state_of}
use Rattle.hv_job_acts.specs.Work.{each_of, parts_at, parts_in}
use Rattle.hv_job_acts.proofs.asking.list_parts.Given as goal

abbrev pub invariant-loop-i : goal.invariant-loop-i
invariant-loop-i l =
    l.parts.items ++ each_of (parts_at l.book.entries) (l.i + 1) (length (drop l.i (state_of l.book.entries).tables)) ≡ parts_in l.book.entries
