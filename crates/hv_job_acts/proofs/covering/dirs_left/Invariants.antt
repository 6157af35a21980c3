use Rattle.std.proofs.Common.{◌≡◌, Some, take}
use Rattle.hv_history.specs.State.{Job, state_of, numbered}
use Rattle.hv_job_acts.specs.Covering.{HasLeft}
use Rattle.hv_job_acts.proofs.covering.dirs_left.Given as goal

abbrev pub invariant-loop-name : goal.invariant-loop-name
invariant-loop-name l =
    (j : Job) → numbered (state_of l.book.entries).jobs l.job.0 ≡ Some j
    → HasLeft (state_of l.book.entries) j l.table l.partition (take l.name-index l.names) l.dirs.items
