-- A call that asks for a job, or takes one up, as a step.
use Rattle.std.proofs.Common.{◌≡◌, ℕ, ◌+◌, Option, Some, None, Result, Ok, Err, IfErr, IsErrOf, List, length, sym, subst}
use Rattle.hv_base.specs.declared.ids.JobId.{JobId}
use Rattle.hv_base.specs.declared.ids.TableId.{TableId}
use Rattle.hv_shelf.specs.Disk.{Store}
use Rattle.hv_history.specs.declared.entry.Entry.{Entry}
use Rattle.hv_history.specs.declared.entry.Entry.TheVariants as entry
use Rattle.hv_history.specs.declared.entry.JobKind.{JobKind}
use Rattle.hv_history.specs.State.{state_of}
use Rattle.hv_trail.specs.Steps.{Note}
use Rattle.hv_telling.specs.hv_house.specs.declared.house.House.{House}
use Rattle.hv_telling.specs.hv_house.specs.House.{entries_of}
use Rattle.hv_job_calls.specs.declared.fault.JobFault.{JobFault}
use Rattle.hv_job_calls.specs.declared.fault.JobFault.TheVariants as fault
use Rattle.hv_job_calls.specs.Refusals.{asking, IsNone}
use Rattle.hv_job_calls.specs.Steps.{call_behind, JobStep}
use Rattle.hv_job_calls.specs.Tests.{IsHouse, IsFoundOrHouse, NotesOrHouse}
use Rattle.hv_job_calls.proofs.Steps.{ok-as, err-as}

-- the number that comes next
asked-same : (book : List Entry) (table : TableId) (partition : List ℕ) (kind : JobKind) (by : ℕ) (job : JobId) → job.0 ≡ length (state_of book).jobs + 1
    → entry.Asked job table partition kind by ≡ asking book table partition kind by
asked-same book table partition kind by job next = λ i. entry.Asked (record { 0 = next i }) table partition kind by

pub asked-as : (book : List Entry) (table : TableId) (partition : List ℕ) (kind : JobKind) (by : ℕ) (job : JobId) → job.0 ≡ length (state_of book).jobs + 1
    → (P : Entry → Type 0) → P (asking book table partition kind by) → P (entry.Asked job table partition kind by)
asked-as book table partition kind by job next P is = subst P (sym (asked-same book table partition kind by job next)) is

module _ {D : Type 0} (told : D → Option Store) (faults : D → ℕ) (event other : Entry) (same : event ≡ other) (before now : House D) where
  -- a job was found
  pub found-ok : (job : JobId) → JobStep {T = Unit {0}} told faults (Note event) before now (Ok tt) → JobStep told faults (Note other) before now (Ok (Some job))
  found-ok job step =
      let done : Unit {0} = tt in
      subst (λ (e : Entry). JobStep {T = Option JobId} told faults (Note e) before now (Ok (Some job))) same
      (ok-as told faults (Note event) before now done (Some job) step)

  pub found-err : (why : JobFault) → JobStep {T = Unit {0}} told faults (call_behind (Note event) why) before now (Err why)
      → JobStep {T = Option JobId} told faults (call_behind (Note other) why) before now (Err why)
  found-err why step =
      subst (λ (e : Entry). JobStep {T = Option JobId} told faults (call_behind (Note e) why) before now (Err why)) same
      (err-as told faults (call_behind (Note event) why) before now why step)

module _ {D : Type 0} (told : D → Option Store) (faults : D → ℕ) (table : TableId) (partition : List ℕ) (kind : JobKind) (by : ℕ) (job : JobId) where
  pub asked-ok : (before now : House D) → job.0 ≡ length (state_of (entries_of before)).jobs + 1
      → JobStep {T = Unit {0}} told faults (Note (entry.Asked job table partition kind by)) before now (Ok tt)
      → JobStep told faults (Note (asking (entries_of before) table partition kind by)) before now (Ok (Some job))
  asked-ok before now next step =
      found-ok told faults (entry.Asked job table partition kind by) (asking (entries_of before) table partition kind by)
      (asked-same (entries_of before) table partition kind by job next) before now job step

  pub asked-err : (why : JobFault) (before now : House D) → job.0 ≡ length (state_of (entries_of before)).jobs + 1
      → JobStep {T = Unit {0}} told faults (call_behind (Note (entry.Asked job table partition kind by)) why) before now (Err why)
      → JobStep {T = Option JobId} told faults (call_behind (Note (asking (entries_of before) table partition kind by)) why) before now (Err why)
  asked-err why before now next step =
      found-err told faults (entry.Asked job table partition kind by) (asking (entries_of before) table partition kind by)
      (asked-same (entries_of before) table partition kind by job next) before now why step

-- ---- which answers there are

-- one that was found, or a fault of the house, is no refusal
pub found-never : {T : Type 0} (r : Result (Option T) JobFault) (why : JobFault) → (IsHouse why → ⊥) → IsFoundOrHouse r → IsErrOf r why → ⊥
found-never (Ok None) why left_out found e = found
found-never (Ok (Some x)) why left_out found e = cc
found-never {T = T} (Err is) why left_out found e =
    left_out (subst IsHouse (same is why e) found)
  where
    same : (a b : JobFault) → (◌≡◌ {A = Result (Option T) JobFault} (Err a) (Err b)) → a ≡ b
    same a b e = cc

pub found-some : {T : Type 0} (r : Result (Option T) JobFault) → IsFoundOrHouse r → IsNone r → ⊥
found-some (Ok None) found none = found
found-some (Ok (Some x)) found none = none
found-some (Err why) found none = none

-- a fault of the house is among the refusals of a note
pub found-others : {T : Type 0} (r : Result (Option T) JobFault) → IsFoundOrHouse r → IfErr r NotesOrHouse
found-others (Ok x) found = tt
found-others (Err (fault.House why)) found = tt
found-others (Err fault.Gone) found = absurd found
found-others (Err (fault.Full entries)) found = absurd found
found-others (Err fault.NotFound) found = absurd found
found-others (Err (fault.Needed txn)) found = absurd found
found-others (Err (fault.StillListed dir)) found = absurd found
found-others (Err (fault.Working job)) found = absurd found
found-others (Err fault.Starved) found = absurd found
