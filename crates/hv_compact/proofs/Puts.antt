-- Files that a job stages.
use Rattle.std.proofs.Common.{◌≡◌, ℕ, Bool, true, Option, Some, None, List, [], ◌∷◌, ◌++◌, Result, Ok, Err, refl, sym, ap, ◌∙◌, subst, append-nil}
use Rattle.std.specs.Prelude.{IsTrue, IsSomeAnd}
use Rattle.std.specs.List.{AllByRecursion}
use Rattle.hv_base.specs.declared.ids.JobId.{JobId}
use Rattle.hv_shelf.specs.declared.place.Place.{Place}
use Rattle.hv_shelf.specs.Disk.{Store}
use Rattle.hv_rowfile.specs.declared.record.Rec.{Rec}
use Rattle.hv_rowfile.specs.Layout.{IsFile, file_spelling}
use Rattle.hv_dirs.specs.declared.names.DirName.{DirName}
use Rattle.hv_history.specs.State.{State, Job, numbered, state_of}
use Rattle.hv_history.specs.Legal.{is_working}
use Rattle.hv_law_work.specs.Work.{by_job, staged_at}
use Rattle.hv_trail.specs.declared.trail.Reader.TheVariants as reader
use Rattle.hv_trail.specs.declared.trail.Mark.TheVariants.{Wrote}
use Rattle.hv_trail.specs.declared.trail.TrailItem.{TrailItem}
use Rattle.hv_trail.specs.declared.trail.TrailItem.TheVariants.{Marked}
use Rattle.hv_trail.specs.Trail.{book_of, state_at, HasWritten}
use Rattle.hv_trail.specs.Steps.{HouseSeen, Call, Put}
use Rattle.hv_trail.proofs.LastingLaws.{book-append}
use Rattle.hv_actor.specs.Acting.{IsLater, Went, Moment, among}
use Rattle.hv_job_acts.specs.hv_acts.specs.declared.told.ToldHouse.{ToldHouse}
use Rattle.hv_job_acts.specs.hv_acts.specs.Told.{IsWholeOrClosed, seen_in, trail_in}
use Rattle.hv_job_acts.specs.hv_acts.specs.Going.{IsOpenHouse}
use Rattle.hv_job_acts.specs.hv_acts.specs.hv_telling.specs.Telling.{IsTold, IsToldHouse}
use Rattle.hv_job_acts.specs.hv_acts.specs.hv_telling.specs.hv_house.specs.declared.fault.HouseFault.TheVariants as house_fault
use Rattle.hv_job_acts.specs.hv_acts.specs.hv_telling.specs.hv_house.proofs.Readings.{contains-last}
use Rattle.hv_job_acts.specs.hv_job_calls.specs.declared.fault.JobFault.TheVariants as fault
use Rattle.hv_job_acts.specs.hv_job_calls.specs.Refusals.{WorksAt}
use Rattle.hv_job_acts.specs.hv_job_calls.specs.Staging.{staged_in, staged_by}
use Rattle.hv_job_acts.specs.hv_job_calls.specs.Tests.{IsGoneOrHouse}
use Rattle.hv_job_acts.specs.declared.fault.JobActFault.{JobActFault}
use Rattle.hv_job_acts.specs.declared.fault.JobActFault.TheVariants as act
use Rattle.hv_job_acts.specs.Answers.{WhyLeaves}
use Rattle.hv_job_acts.specs.Doing.{call_to_stage, adds_staged, IsFileDue, StagesSo, IfCallOrUnfit}
use Rattle.hv_compact.specs.Stopping.{act_stop}
use Rattle.hv_compact.specs.Compacting.{IsMarkOf, Works}
use Rattle.hv_compact.specs.Gathering.{AreDue, IsDue}
use Rattle.hv_compact.specs.Writing.{IsStagedIn}
use Rattle.hv_compact.proofs.Held.{HeldOf, reached-front, held-as, adds-of, done-open, done-answers, refused-stops, works-ok, works-err}
use Rattle.hv_compact.proofs.Later.{told-fitting}

-- ---- what is due

-- the bytes of records that are due
pub due-bytes : (trail : List TrailItem) (job : JobId) (made : DirName) (deletes : Bool) (bucket : ℕ) (recs : List Rec) (bytes : List ℕ)
    → IsFile deletes bucket recs → bytes ≡ file_spelling deletes bucket recs → AreDue trail job made deletes bucket recs
    → IsDue trail job made bucket bytes
due-bytes trail job made deletes bucket recs bytes file spelled due = λ now front book j work.
    let has = due now front book j work in record {
      job = j;
      work = work;
      among = has.0;
      deletes = deletes;
      recs = recs;
      wants = has.1;
      encodes = record { file = file; bytes_are = spelled };
    }

-- ---- marks of what is staged

pub staged-marks : (job : JobId) (why : JobActFault) → AllByRecursion (IsMarkOf job) (adds_staged job (Err why))
staged-marks job act.Unfit = tt
staged-marks job (act.Broken put count) = tt
staged-marks job (act.Call fault.Gone) = tt
staged-marks job (act.Call (fault.Full entries)) = tt
staged-marks job (act.Call fault.NotFound) = tt
staged-marks job (act.Call (fault.Needed txn)) = tt
staged-marks job (act.Call (fault.StillListed dir)) = tt
staged-marks job (act.Call (fault.Working other)) = tt
staged-marks job (act.Call fault.Starved) = tt
staged-marks job (act.Call (fault.House house_fault.Store)) = tt
staged-marks job (act.Call (fault.House house_fault.NoMemory)) = tt
staged-marks job (act.Call (fault.House (house_fault.Failed count))) = (refl, tt)

-- the mark stands at the place that is the job's
marked-in : (before now : List TrailItem) (job : JobId) (name : DirName) (bucket : ℕ) (place : Place)
    → now ≡ before ++ Marked (Wrote (reader.Job job) place) ∷ [] → WorksAt (state_at before) job.0
    → place ≡ staged_in (state_at before) job.0 name bucket → state_at now ≡ state_at before → IsStagedIn now job name bucket
marked-in before now job name bucket place more works at same =
    subst (λ (s : State). IsSomeAnd (numbered s.jobs job.0) (λ (j : Job). HasWritten now (by_job job.0) (staged_at job.0 j name bucket))) (sym same)
    (by (numbered (state_at before).jobs job.0) refl works)
  where
    by : (o : Option Job) → numbered (state_at before).jobs job.0 ≡ o → IsSomeAnd o (λ (j : Job). IsTrue (is_working j))
        → IsSomeAnd o (λ (j : Job). HasWritten now (by_job job.0) (staged_at job.0 j name bucket))
    by None is never = absurd never
    by (Some j) is working =
        subst (λ (items : List TrailItem). HasWritten items (by_job job.0) (staged_at job.0 j name bucket)) (sym more)
        (subst (λ (p : Place). HasWritten (before ++ Marked (Wrote (reader.Job job) place) ∷ []) (by_job job.0) p)
        (at ∙ ap (staged_by job.0 name bucket) is) (contains-last before (Marked (Wrote (reader.Job job) place))))

module _ {D : Type 0} (told : D → Option Store) (faults : D → ℕ) (between : List TrailItem → Type 0)
    (meanwhile : ToldHouse D → ToldHouse D → Type 0)
    (goes_on : (before now : ToldHouse D) → meanwhile before now → IsLater faults (seen_in before) (seen_in now)) where
  -- it may be staged, whatever others do first
  pub can-stage : (before : ToldHouse D) (job : JobId) (name : DirName) (bucket : ℕ) (bytes : List ℕ)
      → (IsToldHouse told before.house → IsDue (trail_in before) job name bucket bytes)
      → (now : ToldHouse D) → IsWholeOrClosed told now.house → meanwhile before now → IsTold told (seen_in now).start
      → IsFileDue (trail_in now) job name bucket bytes
  can-stage before job name bucket bytes due now kept reached is =
      due (subst (IsTold told) (goes_on before now reached).rest.start is) (trail_in now)
      (reached-front told faults between meanwhile goes_on before now reached) (told-fitting told now kept is)

  module _ (a b : Moment (ToldHouse D)) (was : IsOpenHouse a.house) (job : JobId) (name : DirName) (bucket : ℕ) (bytes : List ℕ) where
    abbrev StageOf : HouseSeen D → Result Place JobActFault → Call
    StageOf seen r = call_to_stage (state_at seen.trail) job name bucket bytes r

    abbrev SoOf : HouseSeen D → HouseSeen D → Result Place JobActFault → Type 0
    SoOf x y r = StagesSo (state_at x.trail) job name bucket r

    module _ (result : Result Place JobActFault) (held : HeldOf told faults meanwhile a b StageOf SoOf result)
        (went : Went between (adds_staged job result) a.own b.own (trail_in a.house) (trail_in b.house)) where
      pub staged-works : {T : Type 0} (place : Place) (x : T) → result ≡ Ok place → Works (among told faults between meanwhile) job a b (Ok x)
      staged-works place x is =
          works-ok told faults between meanwhile job a b x (Marked (Wrote (reader.Job job) place) ∷ [])
          (adds-of told faults between meanwhile goes_on a b StageOf SoOf (adds_staged job) result held went (Ok place) is) (refl, tt) (refl, tt)
          (done-open told faults between meanwhile goes_on a b StageOf SoOf place
          (held-as told faults between meanwhile goes_on a b StageOf SoOf (adds_staged job) result held went (Ok place) is))

      pub staged-in : (place : Place) → result ≡ Ok place → IsStagedIn (trail_in b.house) job name bucket
      staged-in place is =
          let now = held-as told faults between meanwhile goes_on a b StageOf SoOf (adds_staged job) result held went (Ok place) is in
          let answers = done-answers told faults between meanwhile goes_on a b StageOf SoOf place now in
          marked-in (trail_in now.house) (trail_in b.house) job name bucket place now.step.trail answers.works answers.place
          (ap state_at now.step.trail
          ∙ ap state_of
          (book-append (trail_in now.house) (Marked (Wrote (reader.Job job) place) ∷ []) ∙ append-nil (book_of (trail_in now.house))))

      pub unstaged-works : {T : Type 0} (why : JobActFault) → result ≡ Err why
          → Works {T = T} (among told faults between meanwhile) job a b (Err (act_stop true why))
      unstaged-works why is =
          let now = held-as told faults between meanwhile goes_on a b StageOf SoOf (adds_staged job) result held went (Err why) is in
          works-err told faults between meanwhile job a b (act_stop true why) (adds_staged job (Err why))
          (adds-of told faults between meanwhile goes_on a b StageOf SoOf (adds_staged job) result held went (Err why) is) (staged-marks job why)
          (refused-stops told faults between meanwhile goes_on a b StageOf SoOf was
          (λ seen. Put (reader.Job job) (staged_in (state_at seen.trail) job.0 name bucket) bytes) (λ seen w. refl) why now job true
          refl (λ count may. refl)
          (λ broke count same.
          absurd (subst (IfCallOrUnfit IsGoneOrHouse) same
          (now.does_it.answers (subst (WhyLeaves faults (seen_in now.house) (seen_in b.house)) same now.does_it.leaves)).others)))
