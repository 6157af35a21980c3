-- Wherever an opening stops, the next one finds what it may find: behind the ends of some of the jobs that were at work, and while the
-- directories go of the one that comes next.
use Rattle.std.specs.Prelude.{◌≡◌, ◌+◌, ◌<◌, ◌&&◌, true, false, List, ◌∷◌, ◌++◌, fold, length, sum_by}
use Rattle.hv_shelf.specs.Disk.{Tree}
use Rattle.hv_dirs.specs.Names.{write_end}
use Rattle.hv_stands.specs.hv_history.specs.State.{State, Job, after}
use Rattle.hv_stands.specs.hv_history.specs.Legal.{is_working, working_one}
use Rattle.hv_stands.specs.hv_history.specs.JobsFit.{is_live_job}
use Rattle.hv_law_made.specs.Entries.{IsSoundBook, Recovers}
use Rattle.hv_law_made.specs.Opening.{whole_jobs, is_to_publish, job_ends, failing_dirs, SomeGo, JobsGo, FinalsAgree}

-- the state behind the ends of these jobs, which are the first ones, where the directories of some stood whole over these files
abbrev pub ended_state : State → Tree → List Job → State
ended_state state files front = fold after state (job_ends (whole_jobs state files) state 1 front)

-- these jobs have ended
abbrev pub OpeningFrontsRecover : Type 0
OpeningFrontsRecover =
    (state : State) (before now : Tree) (front rest : List Job) → state.entries + sum_by working_one state.jobs < write_end → IsSoundBook state → FinalsAgree state
    → state.jobs ≡ front ++ rest → JobsGo (whole_jobs state before) state 1 front before now
    → Recovers state before → Recovers (ended_state state before front) now

-- the next one of them is given up, and some of its files are gone
abbrev pub OpeningStopsRecover : Type 0
OpeningStopsRecover =
    (state : State) (before middle now : Tree) (front : List Job) (job : Job) (rest : List Job)
    → state.entries + sum_by working_one state.jobs < write_end → IsSoundBook state → FinalsAgree state
    → state.jobs ≡ front ++ job ∷ rest → JobsGo (whole_jobs state before) state 1 front before middle → is_working job ≡ true
    → (is_live_job (ended_state state before front) job && is_to_publish (whole_jobs state before) (ended_state state before front) (length front + 1) job) ≡ false
    → SomeGo (failing_dirs (ended_state state before front) (length front + 1) job) middle now
    → Recovers state before → Recovers (ended_state state before front) now
