-- The directories that a compaction covers, as commits and other compactions say that they made them: what a cleaner goes through.
-- Source: Hive Transactions, cleaner.
use Rattle.std.specs.Prelude.{if◌then◌else◌, ℕ, ◌-◌, ◌&&◌, Bool, true, false, Option, Some, None, List, [], ◌∷◌, ◌++◌}
use Rattle.std.specs.List.{flat_map, list_any}
use Rattle.hv_dirs.specs.declared.names.DirName.{DirName}
use Rattle.hv_dirs.specs.declared.names.DirName.TheVariants as dir
use Rattle.hv_history.specs.declared.entry.JobKind.{JobKind}
use Rattle.hv_history.specs.declared.entry.JobKind.TheVariants as kind
use Rattle.hv_history.specs.State.{State, Job}
use Rattle.hv_history.specs.Jobs.{Events, inserts, deletes, is_between, events_in, jobs_in}
use Rattle.hv_jobs.specs.Covers.{covers}

-- ---- what was made

abbrev pub own : Bool → ℕ → DirName
own deleted write = dir.Own deleted (record { 0 = write }) 0

abbrev pub wide : Bool → ℕ → ℕ → DirName
wide deleted low high = dir.Wide deleted (record { 0 = low }) (record { 0 = high })

abbrev pub base : ℕ → DirName
base high = dir.Base (record { 0 = high })

-- rows were inserted, or deleted
abbrev pub changes : Bool → Events → Bool
changes false events = inserts events
changes true events = deletes events

-- some were in the range, which begins at 1 or above
abbrev pub has_within : Bool → ℕ → ℕ → List Events → Bool
has_within deleted low high ids = list_any (λ (events : Events). is_between (low - 1) high events && changes deleted events) ids

-- ---- what the job covers of it

abbrev pub covered_if : Job → Bool → DirName → List DirName
covered_if job made name = if made && covers job name then name ∷ [] else []

-- a commit made a delta where it inserted rows, and one where it deleted some
abbrev pub own_covered : Job → Events → List DirName
own_covered job events =
    covered_if job (inserts events) (own false events.write) ++ covered_if job (deletes events) (own true events.write)

-- a minor compaction made a delta of each kind of which its range has something, a major one a base in any case
abbrev pub range_covered : List Events → Job → JobKind → ℕ → ℕ → List DirName
range_covered ids job kind.Minor low high =
    covered_if job (has_within false low high ids) (wide false low high) ++ covered_if job (has_within true low high ids) (wide true low high)
range_covered ids job kind.Major low high = covered_if job true (base high)

abbrev pub published_covered : List Events → Job → JobKind → Option (ℕ × ℕ × ℕ) → List DirName
published_covered ids job kind None = []
published_covered ids job kind (Some range) = range_covered ids job kind range.0 range.1

abbrev pub made_covered : List Events → Job → Job → List DirName
made_covered ids job other = published_covered ids job other.kind other.published

-- of its partition, by write ids and then by jobs
abbrev pub covered_names : State → Job → List DirName
covered_names state job =
    flat_map (own_covered job) (events_in state job.table job.partition)
    ++ flat_map (made_covered (events_in state job.table job.partition) job) (jobs_in state job.table job.partition)
