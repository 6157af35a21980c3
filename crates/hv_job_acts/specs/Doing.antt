-- What acts answer for a compaction that is at work or published, and for a cleaner: when each refusal comes.
-- Source: Hive Transactions, compactor and cleaner; the order of refusals is this project's profile.
use Rattle.std.specs.Prelude.{◌≡◌, ◌↔◌, ℕ, ◌+◌, true, false, Bool, IsTrue, Option, Some, None, List, [], ◌∷◌, length, Result, Ok, Err, IfOk, IfErr, IsErrOf}
use Rattle.std.specs.FinMap as tree
use Rattle.std.specs.Global.{Vec}
use Rattle.hv_base.specs.Told.{Tells}
use Rattle.hv_base.specs.declared.ids.JobId.{JobId}
use Rattle.hv_base.specs.declared.ids.TableId.{TableId}
use Rattle.hv_base.specs.declared.ids.WriteId.{WriteId}
use Rattle.hv_shelf.specs.declared.place.DirAt.{DirAt}
use Rattle.hv_shelf.specs.declared.place.Place.{Place}
use Rattle.hv_shelf.specs.Disk.{Store}
use Rattle.hv_rowfile.specs.declared.record.Rec.{Rec}
use Rattle.hv_dirs.specs.declared.names.DirName.{DirName}
use Rattle.hv_history.specs.declared.entry.Entry.{Entry}
use Rattle.hv_history.specs.declared.entry.Entry.TheVariants as entry
use Rattle.hv_history.specs.declared.entry.JobCause.{JobCause}
use Rattle.hv_history.specs.State.{State, Job, numbered, state_of}
use Rattle.hv_history.specs.Legal.{profile}
use Rattle.hv_history.specs.Jobs.{is_ready}
use Rattle.hv_history.specs.JobsFit.{OfJob, EmptyFits, FailedFits}
use Rattle.hv_law_made.specs.Standing.{IsEncodingOf}
use Rattle.hv_law_work.specs.Work.{AreGone, IsJobFile, AreStagedAll}
use Rattle.hv_law_made.specs.Entries.{IsAtWork}
use Rattle.hv_trail.specs.declared.trail.Reader.TheVariants as reader
use Rattle.hv_trail.specs.declared.trail.TrailItem.{TrailItem}
use Rattle.hv_trail.specs.declared.trail.TrailItem.TheVariants.{Noted, Marked}
use Rattle.hv_trail.specs.declared.trail.Mark.TheVariants.{Wrote}
use Rattle.hv_trail.specs.Trail.{state_at, book_of, broken}
use Rattle.hv_trail.specs.Steps.{HouseSeen, Call, Put, Publish}
use Rattle.hv_acts.specs.hv_telling.specs.hv_house.specs.Calls.{LacksRoom}
use Rattle.hv_acts.specs.hv_telling.specs.hv_house.specs.Steps.{broken_by}
use Rattle.hv_acts.specs.hv_telling.specs.hv_house.specs.declared.listing.Listing.{Listing}
use Rattle.hv_acts.specs.hv_telling.specs.Telling.{IsTold}
use Rattle.hv_job_calls.specs.declared.fault.JobFault.{JobFault}
use Rattle.hv_job_calls.specs.declared.fault.JobFault.TheVariants as fault
use Rattle.hv_job_calls.specs.Listing.{job_list, AreTakenFor}
use Rattle.hv_job_calls.specs.Refusals.{is_live_in, HasGoneJob, HasLiveJob, IfLive, IsHeldBy, CanForget, IsWorkingStage, IsStandingAt, WorksAt, publishing_of}
use Rattle.hv_job_calls.specs.Staging.{staged_in, renamings_of}
use Rattle.hv_job_calls.specs.Tests.{IsGoneOrHouse, IsHouse, RemovesOrHouse, CleansOrHouse, SweepsOrHouse, ForgetsOrHouse, IsGoneOrPublishing}
use Rattle.hv_job_acts.specs.declared.fault.JobActFault.{JobActFault}
use Rattle.hv_job_acts.specs.declared.fault.JobActFault.TheVariants as act
use Rattle.hv_job_acts.specs.declared.staging.Publication.{Publication}
use Rattle.hv_job_acts.specs.Answers.{act_call}
use Rattle.hv_job_acts.specs.Covering.{AreNamesOf}

-- a call refused it, for such a reason
abbrev pub IfCall : (JobFault → Type 0) → JobActFault → Type 0
IfCall P (act.Call why) = P why
IfCall P act.Unfit = ⊥
IfCall P (act.Broken put count) = ⊥

-- or it doesn't fit
abbrev pub IfCallOrUnfit : (JobFault → Type 0) → JobActFault → Type 0
IfCallOrUnfit P (act.Call why) = P why
IfCallOrUnfit P act.Unfit = Unit {0}
IfCallOrUnfit P (act.Broken put count) = ⊥

-- ---- a directory that a job covers is taken away

pub record RemovesSo (state : State) (job : JobId) (result : Result (Unit {0}) JobActFault) : Type 0 where
  pub gone : IsErrOf result (act.Call fault.Gone) ↔ HasGoneJob state job.0
  pub needed : (txn : ℕ) → IsErrOf result (act.Call (fault.Needed (record { 0 = txn }))) ↔ IsHeldBy state job.0 txn
  pub others : IfErr result (IfCall RemovesOrHouse)

-- an own directory of an aborted id is
pub record OwnGoesSo (state : State) (table : TableId) (result : Result (Unit {0}) JobActFault) : Type 0 where
  pub gone : IsErrOf result (act.Call fault.Gone) ↔ (is_live_in state table.0 ≡ false)
  pub others : IfErr result (IfCall IsGoneOrHouse)

-- a staged one is, or one of a dropped table
pub record SweepsSo (state : State) (dir : DirAt) (result : Result (Unit {0}) JobActFault) : Type 0 where
  pub working : (number : ℕ) → IsErrOf result (act.Call (fault.Working (record { 0 = number })))
      → IsWorkingStage state dir number
  pub idle : (number : ℕ) → IsWorkingStage state dir number → IfOk result (λ done. ⊥)
  pub others : IfErr result (IfCall SweepsOrHouse)

-- ---- a job was cleaned

pub record CleansSo (trail : List TrailItem) (job : JobId) (result : Result (Unit {0}) JobActFault) : Type 0 where
  pub ready : IfOk result (λ done. OfJob (state_at trail) job.0 (λ j. IsTrue (is_ready j)))
  pub marked : IfOk result (λ done. IfLive (state_at trail) job.0 (AreGone trail (state_at trail)))
  pub unfit : IsErrOf result act.Unfit → OfJob (state_at trail) job.0 (λ j. IsTrue (is_ready j))
      → OfJob (state_at trail) job.0 (AreNamesOf (state_at trail))
      → IfLive (state_at trail) job.0 (AreGone trail (state_at trail)) → ⊥
  pub gone : IsErrOf result (act.Call fault.Gone) → HasGoneJob (state_at trail) job.0
  pub full : (count : ℕ) → IsErrOf result (act.Call (fault.Full count)) → LacksRoom profile (book_of trail) 1 count
  pub needed : (txn : ℕ) → IsErrOf result (act.Call (fault.Needed (record { 0 = txn })))
      → IsHeldBy (state_at trail) job.0 txn
  pub others : IfErr result (IfCallOrUnfit CleansOrHouse)

-- ---- an aborted id is forgotten

pub record ForgetsSo (trail : List TrailItem) (table : TableId) (write : WriteId)
    (result : Result (Unit {0}) JobActFault) : Type 0 where
  pub gone : IsErrOf result (act.Call fault.Gone) ↔ (is_live_in (state_at trail) table.0 ≡ false)
  pub full : (count : ℕ) → IsErrOf result (act.Call (fault.Full count)) → LacksRoom profile (book_of trail) 1 count
  pub unfit : IsErrOf result act.Unfit → CanForget (state_at trail) table.0 write.0 → ⊥
  pub others : IfErr result (IfCallOrUnfit ForgetsOrHouse)

-- ---- a job at work

pub record EmptySo (state : State) (job : JobId) (result : Result (Unit {0}) JobActFault) : Type 0 where
  pub fits : IfOk result (λ done. OfJob state job.0 (EmptyFits state))
  pub gone : IsErrOf result (act.Call fault.Gone) → HasGoneJob state job.0
  pub unfit : IsErrOf result act.Unfit → OfJob state job.0 (EmptyFits state) → ⊥
  pub others : IfErr result (IfCallOrUnfit IsGoneOrHouse)

pub record GivesUpSo (state : State) (job : JobId) (cause : JobCause)
    (result : Result (Unit {0}) JobActFault) : Type 0 where
  pub fits : IfOk result (λ done. OfJob state job.0 (FailedFits state cause))
  pub unfit : IsErrOf result act.Unfit → OfJob state job.0 (FailedFits state cause) → ⊥
  pub others : IfErr result (IfCallOrUnfit IsHouse)

-- its files are listed
pub record ListsSo {D : Type 0} (told : D → Option Store) (house : HouseSeen D) (job : JobId)
    (result : Result Listing JobActFault) : Type 0 where
  pub works : IfOk result (λ listing. WorksAt (state_at house.trail) job.0)
  pub list : IfOk result (λ listing. (j : Job) → numbered (state_at house.trail).jobs job.0 ≡ Some j
      → listing.list ≡ job_list (book_of house.trail) j)
  pub files : IfOk result (λ listing. (j : Job) → numbered (state_at house.trail).jobs job.0 ≡ Some j
      → Tells (told house.shelf) (λ s. AreTakenFor j listing s.tree))
  pub gone : IsErrOf result (act.Call fault.Gone) → HasGoneJob (state_at house.trail) job.0
  pub unfit : IsErrOf result act.Unfit → WorksAt (state_at house.trail) job.0 → ⊥
  pub others : IfErr result (IfCallOrUnfit IsGoneOrHouse)

-- the bytes of one are got, where it stands
abbrev pub GotAt : {D : Type 0} → (D → Option Store) → HouseSeen D → Place → Option (Vec ℕ) → Type 0
GotAt told house place None = Tells (told house.shelf) (λ s. tree.get s.tree place ≡ None)
GotAt told house place (Some bytes) = Tells (told house.shelf) (λ s. tree.get s.tree place ≡ Some bytes.items)

abbrev pub IsMadeOf : Bool → List Rec → Place → Option (Vec ℕ) → Type 0
IsMadeOf deletes recs place None = ⊥
IsMadeOf deletes recs place (Some bytes) = IsEncodingOf deletes place.bucket recs bytes.items

pub record GetsSo {D : Type 0} (told : D → Option Store) (house : HouseSeen D) (job : JobId) (place : Place)
    (result : Result (Option (Vec ℕ)) JobActFault) : Type 0 where
  pub works : IfOk result (λ found. WorksAt (state_at house.trail) job.0)
  pub live : IfOk result (λ found. HasLiveJob (state_at house.trail) job.0)
  pub got : IfOk result (GotAt told house place)
  pub made : (deletes : Bool) (recs : List Rec) → IsTold told house.start
      → IsStandingAt (state_at house.trail) place deletes recs
      → IfOk result (IsMadeOf deletes recs place)
  pub gone : IsErrOf result (act.Call fault.Gone) → HasGoneJob (state_at house.trail) job.0
  pub unfit : IsErrOf result act.Unfit → WorksAt (state_at house.trail) job.0 → ⊥
  pub others : IfErr result (IfCallOrUnfit IsGoneOrHouse)

-- ---- a file is staged: the answer is its place

abbrev pub call_to_stage : State → JobId → DirName → ℕ → List ℕ → Result Place JobActFault → Call
call_to_stage state job name bucket bytes (Ok place) = Put (reader.Job job) place bytes
call_to_stage state job name bucket bytes (Err why) =
    act_call (Put (reader.Job job) (staged_in state job.0 name bucket) bytes) why

abbrev pub broke_staging : JobId → JobActFault → List TrailItem
broke_staging job (act.Call (fault.House why)) = broken_by (Some (reader.Job job)) true why
broke_staging job why = []

abbrev pub adds_staged : JobId → Result Place JobActFault → List TrailItem
adds_staged job (Ok place) = Marked (Wrote (reader.Job job) place) ∷ []
adds_staged job (Err why) = broke_staging job why

-- while the job is at work these are the bytes of a file that it is to stage
abbrev pub IsFileDue : List TrailItem → JobId → DirName → ℕ → List ℕ → Type 0
IsFileDue trail job name bucket bytes =
    (j : Job) → IsAtWork (state_at trail) job.0 j → IsJobFile (state_at trail) job.0 name bucket bytes

pub record StagesSo (state : State) (job : JobId) (name : DirName) (bucket : ℕ)
    (result : Result Place JobActFault) : Type 0 where
  pub place : IfOk result (λ place. place ≡ staged_in state job.0 name bucket)
  pub works : IfOk result (λ place. WorksAt state job.0)
  pub gone : IsErrOf result (act.Call fault.Gone) → HasGoneJob state job.0
  pub others : IfErr result (IfCallOrUnfit IsGoneOrHouse)

-- ---- a job is published

abbrev pub published_entry : JobId → Publication → Entry
published_entry job found = entry.Published job found.low found.high found.mark

abbrev pub call_to_publish : List Entry → JobId → Result Publication JobActFault → Call
call_to_publish book job (Ok found) = Publish (renamings_of (state_of book) job.0) (published_entry job found)
call_to_publish book job (Err why) =
    act_call (Publish (renamings_of (state_of book) job.0) (publishing_of book job)) why

abbrev pub adds_published : JobId → Result Publication JobActFault → List TrailItem
adds_published job (Ok found) = Noted (published_entry job found) ∷ []
adds_published job (Err why) = []

-- while the job is at work all that it is to stage has marks
abbrev pub IsStagedDue : List TrailItem → JobId → Type 0
IsStagedDue trail job =
    (j : Job) (work : IsAtWork (state_at trail) job.0 j) → AreStagedAll trail (state_at trail) job.0 j work.table

abbrev pub IfPublishing : JobId → List TrailItem → JobActFault → Type 0
IfPublishing job trail (act.Call why) = IsGoneOrPublishing why
IfPublishing job trail act.Unfit = Unit {0}
IfPublishing job trail (act.Broken put count) = broken (reader.Job job) trail ≡ Some (put, count)

pub record PublishesSo (trail : List TrailItem) (job : JobId) (result : Result Publication JobActFault) : Type 0 where
  pub entry_is : IfOk result (λ found. published_entry job found ≡ publishing_of (book_of trail) job)
  pub mark : IfOk result (λ found. found.mark.0 ≡ length (state_at trail).transactions + 1)
  pub works : IfOk result (λ found. WorksAt (state_at trail) job.0)
  pub unbroken : IfOk result (λ found. broken (reader.Job job) trail ≡ None)
  pub gone : IsErrOf result (act.Call fault.Gone) → HasGoneJob (state_at trail) job.0
  pub others : IfErr result (IfPublishing job trail)
