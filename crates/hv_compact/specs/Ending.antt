-- How a job that was taken up ends.
use Rattle.std.specs.Prelude.{IsSome, ◌≡◌, ◌⊎◌, Option, Some, None, Result, Ok, Err, List}
use Rattle.std.specs.List.{AllByRecursion}
use Rattle.hv_base.specs.declared.ids.JobId.{JobId}
use Rattle.hv_base.specs.declared.ids.WriteId.{WriteId}
use Rattle.hv_base.specs.declared.ids.TxnId.{TxnId}
use Rattle.hv_history.specs.declared.entry.Entry.{Entry}
use Rattle.hv_history.specs.declared.entry.Entry.TheVariants as entry
use Rattle.hv_history.specs.declared.entry.JobCause.{JobCause}
use Rattle.hv_history.specs.declared.entry.JobCause.TheVariants as cause
use Rattle.hv_history.specs.State.{Job, numbered, state_of}
use Rattle.hv_history.specs.Jobs.{pieces_for}
use Rattle.hv_history.specs.JobsFit.{OfJob, EmptyFits, FailedFits}
use Rattle.hv_history.specs.Lasting.{IsFront}
use Rattle.hv_trail.specs.declared.trail.TrailItem.{TrailItem}
use Rattle.hv_trail.specs.Trail.{state_at}
use Rattle.hv_actor.specs.Acting.{Setting, Moment}
use Rattle.hv_job_acts.specs.hv_acts.specs.declared.told.ToldHouse.{ToldHouse}
use Rattle.hv_job_acts.specs.hv_acts.specs.Going.{IsOpenHouse}
use Rattle.hv_job_acts.specs.hv_job_calls.specs.Refusals.{publishing_of}
use Rattle.hv_job_acts.specs.declared.noting.PickedJob.{PickedJob}
use Rattle.hv_job_acts.specs.declared.fault.JobActFault.{JobActFault}
use Rattle.hv_job_acts.specs.declared.fault.JobActFault.TheVariants as act
use Rattle.hv_job_acts.specs.Going.{AddsItems}
use Rattle.hv_compact.specs.declared.compacting.Causes.{Causes}
use Rattle.hv_compact.specs.declared.compacting.Done.{Done}
use Rattle.hv_compact.specs.declared.compacting.Done.TheVariants as done
use Rattle.hv_compact.specs.declared.fault.RunFault.{RunFault}
use Rattle.hv_compact.specs.declared.fault.RunFault.TheVariants as run
use Rattle.hv_compact.specs.declared.task.Task.{Task}
use Rattle.hv_compact.specs.Stopping.{act_run, IsOfJob, IsAtWork, RunsOut, MayGiveUp}
use Rattle.hv_compact.specs.Compacting.{IsMarkOf, IsWroteOf, NotesOne}

abbrev pub task_of : PickedJob → Task
task_of picked = record { job = picked.job; kind = picked.kind; low = picked.pieces.low.0; high = picked.pieces.high.0 }

-- At a front of this trail the job was taken up, and this is what it merges.
pub record IsPicked (trail : List TrailItem) (task : Task) : Type 0 where
  pub then_ : List TrailItem
  pub front : IsFront then_ trail
  pub job : Job
  pub is : numbered (state_at then_).jobs task.job.0 ≡ Some job
  pub taken : IsSome job.watermark
  pub kind : task.kind ≡ job.kind
  pub low : task.low ≡ (pieces_for (state_at then_) job).low
  pub high : task.high ≡ (pieces_for (state_at then_) job).high

abbrev pub IfPicked : List TrailItem → Option PickedJob → Type 0
IfPicked trail None = Unit {0}
IfPicked trail (Some picked) = IsPicked trail (task_of picked)

-- the job is there
abbrev pub IsThere : List TrailItem → JobId → Type 0
IsThere trail job = OfJob (state_at trail) job.0 (λ (j : Job). Unit {0})

-- ---- its cause, twice

abbrev pub IsOneOf : JobCause → JobCause → Type 0
IsOneOf why noted = (noted ≡ why) ⊎ (noted ≡ cause.Memory)

pub record AreSame (why : JobCause) (causes : Causes) : Type 0 where
  pub noted : IsOneOf why causes.noted
  pub told : causes.told ≡ causes.noted

pub record CanGiveUp {D : Type 0} (now : ToldHouse D) (job : JobId) (causes : Causes) : Type 0 where
  pub may : MayGiveUp now job causes.noted
  pub told : causes.told ≡ causes.noted

-- a refused act left the house so
abbrev pub IsLeftBy : {D : Type 0} → Setting D (ToldHouse D) → JobId → ToldHouse D → JobActFault → Type 0
IsLeftBy setting job now act.Unfit = IsOpenHouse now
IsLeftBy setting job now (act.Broken put count) = IsOpenHouse now
IsLeftBy setting job now (act.Call why) = RunsOut setting (IsOfJob job) now (act_run (act.Call why))

-- ---- its end

-- marks of it, and the entry that ends it
pub record EndsWith {D : Type 0} (setting : Setting D (ToldHouse D)) (before now : Moment (ToldHouse D))
    (Marks : JobId → TrailItem → Type 0)
    (job : JobId) (event : Entry) (Is : List Entry → Type 0) : Type 0 where
  pub left : Moment (ToldHouse D)
  pub marks : List TrailItem
  pub each : AllByRecursion (Marks job) marks
  pub adds : AddsItems setting.faults setting.between before left marks
  pub ends : NotesOne setting left now event Is
  pub running : IsOpenHouse now.house

pub record EndsPublished {D : Type 0} (setting : Setting D (ToldHouse D)) (before now : Moment (ToldHouse D))
    (job : JobId) (mark : TxnId) : Type 0 where
  pub low : WriteId
  pub high : WriteId
  pub ends : EndsWith setting before now IsWroteOf job (entry.Published job low high mark)
      (λ book. publishing_of book job ≡ entry.Published job low high mark)

-- it was given up
abbrev pub EndsGiven : {D : Type 0} → Setting D (ToldHouse D) → JobId → Moment (ToldHouse D) → Moment (ToldHouse D)
    → Done → Type 0
EndsGiven setting job before now done.Idle = ⊥
EndsGiven setting job before now done.Nothing = ⊥
EndsGiven setting job before now (done.Published one mark) = ⊥
EndsGiven setting job before now (done.GivenUp one why) =
    (one ≡ job) × EndsWith setting before now IsMarkOf job (entry.Failed job why)
    (λ book. OfJob (state_of book) job.0 (FailedFits (state_of book) why))

abbrev pub EndsIn : {D : Type 0} → Setting D (ToldHouse D) → JobId → Moment (ToldHouse D) → Moment (ToldHouse D)
    → Done → Type 0
EndsIn setting job before now done.Idle = ⊥
EndsIn setting job before now done.Nothing =
    EndsWith setting before now IsMarkOf job (entry.Empty job)
    (λ book. OfJob (state_of book) job.0 (EmptyFits (state_of book)))
EndsIn setting job before now (done.Published one mark) = (one ≡ job) × EndsPublished setting before now job mark
EndsIn setting job before now (done.GivenUp one why) =
    (one ≡ job) × EndsWith setting before now IsMarkOf job (entry.Failed job why)
    (λ book. OfJob (state_of book) job.0 (FailedFits (state_of book) why))

-- the run stopped before
pub record EndsLess {D : Type 0} (setting : Setting D (ToldHouse D)) (job : JobId)
    (before now : Moment (ToldHouse D)) (why : RunFault) : Type 0 where
  pub marks : List TrailItem
  pub each : AllByRecursion (IsMarkOf job) marks
  pub adds : AddsItems setting.faults setting.between before now marks
  pub stops : RunsOut setting (IsOfJob job) now.house why

-- of the one that was found
abbrev pub IsIdleDone : Done → Type 0
IsIdleDone done.Idle = Unit {0}
IsIdleDone answer = ⊥

abbrev pub EndsFound : {D : Type 0} → Setting D (ToldHouse D) → Option PickedJob → Moment (ToldHouse D)
    → Moment (ToldHouse D) → Done → Type 0
EndsFound setting None before now answer = IsIdleDone answer × (now ≡ before)
EndsFound setting (Some picked) before now answer = EndsIn setting picked.job before now answer

-- a job that was taken up has room for its end, so that it is never want of room that ends its work
abbrev pub at_work : Result Done RunFault → Result Done RunFault
at_work (Ok answer) = Ok answer
at_work (Err run.Store) = Err run.Store
at_work (Err (run.Full entries)) = Err run.NoMemory
at_work (Err run.NoMemory) = Err run.NoMemory

abbrev pub LessFound : {D : Type 0} → Setting D (ToldHouse D) → Option PickedJob → Moment (ToldHouse D)
    → Moment (ToldHouse D) → RunFault → Type 0
LessFound setting None before now why = ⊥
LessFound setting (Some picked) before now why = EndsLess setting picked.job before now why × IsAtWork why
