-- Which directories a job at work is to make, one by one.
use Rattle.std.specs.Prelude.{◌≡◌, ℕ, ◌==◌, ◌&&◌, Bool, true, false, Option, Some, None, List, Result, Ok, Err}
use Rattle.hv_base.specs.declared.ids.TxnId.{TxnId}
use Rattle.hv_shelf.specs.declared.place.Place.{Place}
use Rattle.hv_dirs.specs.declared.names.DirName.{DirName}
use Rattle.hv_dirs.specs.declared.names.DirName.TheVariants as dir
use Rattle.hv_history.specs.declared.entry.Entry.{Entry}
use Rattle.hv_history.specs.declared.entry.JobKind.{JobKind}
use Rattle.hv_history.specs.declared.entry.JobKind.TheVariants as kind
use Rattle.hv_history.specs.State.{State, Job, numbered, state_of}
use Rattle.hv_history.specs.Jobs.{Events, events_in}
use Rattle.hv_jobs.specs.Covered.{has_within}
use Rattle.hv_jobs.specs.Finals.{finals_of}
use Rattle.hv_tallies.specs.Jobs.{asked_at}
use Rattle.hv_finals.specs.declared.merging.Merge.{Merge}
use Rattle.hv_law_visible.specs.Members.{IsIn}
use Rattle.hv_job_calls.specs.declared.fault.JobFault.{JobFault}
use Rattle.hv_job_acts.specs.declared.fault.JobActFault.{JobActFault}
use Rattle.hv_job_acts.specs.declared.fault.JobActFault.TheVariants as act
use Rattle.hv_job_acts.specs.declared.staging.Publication.{Publication}

abbrev pub is_minor_final : List Events → Merge → DirName → Bool
is_minor_final ids merge (dir.Wide deletes low high) =
    ((low.0 == merge.low) && (high.0 == merge.high)) && has_within deletes merge.low merge.high ids
is_minor_final ids merge (dir.Base high) = false
is_minor_final ids merge (dir.Own deletes write statement) = false
is_minor_final ids merge (dir.Staged job name) = false

abbrev pub is_major_final : Merge → DirName → Bool
is_major_final merge (dir.Base high) = high.0 == merge.high
is_major_final merge (dir.Wide deletes low high) = false
is_major_final merge (dir.Own deletes write statement) = false
is_major_final merge (dir.Staged job name) = false

abbrev pub is_final_by : List Events → JobKind → Merge → DirName → Bool
is_final_by ids kind.Minor merge name = is_minor_final ids merge name
is_final_by ids kind.Major merge name = is_major_final merge name

abbrev pub is_final_of : List Events → Merge → DirName → Bool
is_final_of ids merge name = is_final_by ids merge.kind merge name

-- in the partition that it was asked for
abbrev pub is_final_for : State → Merge → DirName → Option (List ℕ) → Bool
is_final_for state merge name None = false
is_final_for state merge name (Some partition) = is_final_of (events_in state merge.table partition) merge name

abbrev pub is_final_in : List Entry → Merge → DirName → Bool
is_final_in book merge name = is_final_for (state_of book) merge name (asked_at book merge.asked)

-- where the answer is so, the job is to make it
abbrev pub FinalIn : List Entry → ℕ → DirName → Bool → Type 0
FinalIn book job name final =
    final ≡ true → (j : Job) → numbered (state_of book).jobs job ≡ Some j → IsIn name (finals_of (state_of book) j)

-- the place, where the file was put
abbrev pub with_place : Place → Result (Unit {0}) JobFault → Result Place JobActFault
with_place place (Ok done) = Ok place
with_place place (Err why) = Err (act.Call why)

-- the range and the mark, where it was published
abbrev pub with_range : Merge → Result TxnId JobFault → Result Publication JobActFault
with_range merge (Ok mark) =
    Ok (record { low = record { 0 = merge.low }; high = record { 0 = merge.high }; mark = mark })
with_range merge (Err why) = Err (act.Call why)
