-- What a compaction adds by its own acts, and how it ends.
-- Source: Hive Transactions, compactor (worker).
use Rattle.std.specs.Prelude.{◌≡◌, Option, Some, None, List, [], ◌∷◌, ◌++◌, Result, IfOk, IfErr}
use Rattle.std.specs.List.{AllByRecursion}
use Rattle.hv_base.specs.declared.ids.JobId.{JobId}
use Rattle.hv_base.specs.declared.ids.WriteId.{WriteId}
use Rattle.hv_base.specs.declared.ids.TxnId.{TxnId}
use Rattle.hv_shelf.specs.Disk.{Store}
use Rattle.hv_history.specs.declared.entry.Entry.{Entry}
use Rattle.hv_history.specs.declared.entry.Entry.TheVariants as entry
use Rattle.hv_history.specs.State.{state_of}
use Rattle.hv_history.specs.JobsFit.{OfJob, EmptyFits, FailedFits}
use Rattle.hv_history.specs.Lasting.{IsFront}
use Rattle.hv_trail.specs.declared.trail.Reader.TheVariants as reader
use Rattle.hv_trail.specs.declared.trail.TrailItem.{TrailItem}
use Rattle.hv_trail.specs.declared.trail.TrailItem.TheVariants.{Noted, Marked}
use Rattle.hv_trail.specs.declared.trail.Mark.TheVariants.{Wrote, Broke}
use Rattle.hv_trail.specs.Trail.{book_of, state_at}
use Rattle.hv_actor.specs.Acting.{Setting, Moment}
use Rattle.hv_job_acts.specs.hv_acts.specs.declared.told.ToldHouse.{ToldHouse}
use Rattle.hv_job_acts.specs.hv_acts.specs.Told.{trail_in, book_in}
use Rattle.hv_job_acts.specs.hv_acts.specs.Going.{IsOpenHouse}
use Rattle.hv_job_acts.specs.hv_acts.specs.Reading.{HasFittingBook}
use Rattle.hv_job_acts.specs.hv_acts.specs.hv_telling.specs.Telling.{IsToldHouse}
use Rattle.hv_job_acts.specs.hv_job_calls.specs.Refusals.{to_pick, picking, publishing_of}
use Rattle.hv_job_acts.specs.Going.{AddsItems, WasAt}
use Rattle.hv_job_acts.specs.Doing.{IsStagedDue}
use Rattle.hv_compact.specs.declared.fault.RunFault.{RunFault}
use Rattle.hv_compact.specs.declared.fault.Stop.{Stop}
use Rattle.hv_compact.specs.declared.compacting.Done.{Done}
use Rattle.hv_compact.specs.declared.compacting.Done.TheVariants as done
use Rattle.hv_compact.specs.Stopping.{IsPicking, IsOfJob, IsFullFor, IsAtWork, RunsOut, StopsSo}

-- a mark of this job: of a file that it put, or of a call on files that failed
abbrev pub IsMarkOf : JobId → TrailItem → Type 0
IsMarkOf job (Marked (Wrote by place)) = by ≡ reader.Job job
IsMarkOf job (Marked (Broke by put count)) = by ≡ Some (reader.Job job)
IsMarkOf job item = ⊥

abbrev pub IsWroteOf : JobId → TrailItem → Type 0
IsWroteOf job (Marked (Wrote by place)) = by ≡ reader.Job job
IsWroteOf job item = ⊥

-- ---- acts of a job at work

-- they added marks of it alone
pub record Works {D T : Type 0} (setting : Setting D (ToldHouse D)) (job : JobId) (before now : Moment (ToldHouse D))
    (result : Result T Stop) : Type 0 where
  pub items : List TrailItem
  pub adds : AddsItems setting.faults setting.between before now items
  pub marks : AllByRecursion (IsMarkOf job) items
  pub wrote : IfOk result (λ x. AllByRecursion (IsWroteOf job) items)
  pub running : IfOk result (λ x. IsOpenHouse now.house)
  pub stops : IfErr result (StopsSo setting job now.house)

-- ---- its end

-- one entry was noted, behind a trail whose book this holds of
pub record NotesOne {D : Type 0} (setting : Setting D (ToldHouse D)) (before now : Moment (ToldHouse D)) (event : Entry)
    (Is : List Entry → Type 0) : Type 0 where
  pub then_ : List TrailItem
  pub last : trail_in now.house ≡ then_ ++ Noted event ∷ []
  pub later : IsFront (trail_in before.house) then_
  pub adds : AddsItems setting.faults setting.between before now (Noted event ∷ [])
  pub was : Is (book_of then_)

-- it was picked, then it had marks of its files, and then it ended with this entry
pub record EndsBy {D : Type 0} (setting : Setting D (ToldHouse D)) (before now : Moment (ToldHouse D))
    (Marks : JobId → TrailItem → Type 0)
    (job : JobId) (event : Entry) (Is : List Entry → Type 0) : Type 0 where
  pub watermark : WriteId
  pub mid : Moment (ToldHouse D)
  pub picks : NotesOne setting before mid (entry.Picked job watermark)
      (λ book. picking book ≡ entry.Picked job watermark)
  pub left : Moment (ToldHouse D)
  pub marks : List TrailItem
  pub each : AllByRecursion (Marks job) marks
  pub adds : AddsItems setting.faults setting.between mid left marks
  pub ends : NotesOne setting left now event Is
  pub running : IsOpenHouse now.house

-- with its range over the book, and the number of the next transaction
pub record PublishesOne {D : Type 0} (setting : Setting D (ToldHouse D)) (before now : Moment (ToldHouse D))
    (job : JobId) (mark : TxnId) : Type 0 where
  pub low : WriteId
  pub high : WriteId
  pub ends : EndsBy setting before now IsWroteOf job (entry.Published job low high mark)
      (λ book. publishing_of book job ≡ entry.Published job low high mark)

-- nothing was to be picked
pub record IsIdle {D : Type 0} (setting : Setting D (ToldHouse D)) (before now : Moment (ToldHouse D)) : Type 0 where
  pub adds : AddsItems setting.faults setting.between before now []
  pub idle : WasAt before.house now.house (λ trail. to_pick (state_at trail) ≡ None)
  pub running : IsOpenHouse now.house

abbrev pub CompactsSo : {D : Type 0} → Setting D (ToldHouse D) → Moment (ToldHouse D) → Moment (ToldHouse D) → Done
    → Type 0
CompactsSo setting before now done.Idle = IsIdle setting before now
CompactsSo setting before now done.Nothing = (job : JobId)
    × EndsBy setting before now IsMarkOf job (entry.Empty job)
    (λ book. OfJob (state_of book) job.0 (EmptyFits (state_of book)))
CompactsSo setting before now (done.Published job mark) = PublishesOne setting before now job mark
CompactsSo setting before now (done.GivenUp job why) = EndsBy setting before now IsMarkOf job (entry.Failed job why)
    (λ book. OfJob (state_of book) job.0 (FailedFits (state_of book) why))

-- where it stops, nothing was added, or a Picked and marks of its job
abbrev pub IsPickedThen : List TrailItem → Type 0
IsPickedThen [] = Unit {0}
IsPickedThen (Noted (entry.Picked job watermark) ∷ marks) = AllByRecursion (IsMarkOf job) marks
IsPickedThen items = ⊥

abbrev pub StopsIn : {D : Type 0} → Setting D (ToldHouse D) → ToldHouse D → List TrailItem → RunFault → Type 0
StopsIn setting now (Noted (entry.Picked job watermark) ∷ marks) why = RunsOut setting (IsOfJob job) now why
StopsIn setting now items why = RunsOut setting IsPicking now why

-- for want of room only before a job was taken up
abbrev pub FullIn : List Entry → List TrailItem → RunFault → Type 0
FullIn book [] why = IsFullFor 2 book why
FullIn book (item ∷ items) why = IsAtWork why

pub record StopsWith {D : Type 0} (setting : Setting D (ToldHouse D)) (before now : Moment (ToldHouse D))
    (why : RunFault) : Type 0 where
  pub items : List TrailItem
  pub adds : AddsItems setting.faults setting.between before now items
  pub picked : IsPickedThen items
  pub stops : StopsIn setting now.house items why
  pub full : FullIn (book_in now.house) items why

-- ---- what is so in a told house

-- on each trail behind this one all that the job is to stage has marks, while it is at work
abbrev pub StagedWhile : List TrailItem → JobId → Type 0
StagedWhile trail job = (now : List TrailItem) → IsFront trail now → HasFittingBook now → IsStagedDue now job

abbrev pub HasStaged : {D : Type 0} → (D → Option Store) → JobId → ToldHouse D → Type 0
HasStaged told job now = IsToldHouse told now.house → StagedWhile (trail_in now) job
