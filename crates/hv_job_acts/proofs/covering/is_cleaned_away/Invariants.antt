use Rattle.std.proofs.Common.{◌≡◌, drop, filter}
use Rattle.std.specs.List.{list_any}
use Rattle.hv_history.specs.State.{state_of}
use Rattle.hv_history.specs.Jobs.{is_job_of}
use Rattle.hv_jobs.specs.Covers.{cleans}
use Rattle.hv_job_acts.proofs.covering.is_cleaned_away.Given as goal

abbrev pub invariant-loop-i : goal.invariant-loop-i
invariant-loop-i l =
    list_any (cleans l.name) (filter (is_job_of l.table l.partition) (drop l.i (state_of l.book.entries).jobs))
    ≡ list_any (cleans l.name) (filter (is_job_of l.table l.partition) (state_of l.book.entries).jobs)
