-- What a house that is found later has: its book fits, and a job that was there is there.
use Rattle.std.proofs.Common.{◌≡◌, ◌⊎◌, inl, inr, ℕ, Bool, true, false, Option, Some, List, ◌++◌, refl, sym, ap, ◌∙◌, subst, arith}
use Rattle.std.specs.Prelude.{IsSomeAnd}
use Rattle.std.proofs.lemmas.List.Elements.{Contains-append_left}
use Rattle.hv_base.specs.declared.ids.JobId.{JobId}
use Rattle.hv_shelf.specs.declared.place.Place.{Place}
use Rattle.hv_shelf.specs.Disk.{Store}
use Rattle.hv_dirs.specs.declared.names.DirName.{DirName}
use Rattle.hv_history.specs.declared.entry.Entry.{Entry}
use Rattle.hv_history.specs.State.{State, Job, nothing_yet, numbered}
use Rattle.hv_history.specs.Legal.{profile, AllFit}
use Rattle.hv_history.specs.Lasting.{IsFront}
use Rattle.hv_law_jobs.specs.Lasting.{JobLater}
use Rattle.hv_law_jobs.proofs.LastLemmas.{jobs-last}
use Rattle.hv_law_made.specs.Entries.{staged_text}
use Rattle.hv_law_work.specs.Work.{by_job, staged_at}
use Rattle.hv_trail.specs.declared.trail.TrailItem.{TrailItem}
use Rattle.hv_trail.specs.declared.trail.TrailItem.TheVariants.{Marked}
use Rattle.hv_trail.specs.declared.trail.Mark.TheVariants.{Wrote}
use Rattle.hv_trail.specs.Trail.{book_of, state_at, HasWritten}
use Rattle.hv_trail.proofs.LastingLaws.{state-append}
use Rattle.hv_job_acts.specs.hv_acts.specs.declared.told.ToldHouse.{ToldHouse}
use Rattle.hv_job_acts.specs.hv_acts.specs.Told.{IsWholeOrClosed, trail_in}
use Rattle.hv_job_acts.specs.hv_acts.specs.Reading.{HasFittingBook}
use Rattle.hv_job_acts.specs.hv_acts.proofs.ReadSteps.{fitting-book}
use Rattle.hv_job_acts.specs.hv_acts.proofs.Steps.{book-is}
use Rattle.hv_job_acts.specs.hv_acts.specs.hv_telling.specs.Telling.{IsToldHouse, OpensLater}
use Rattle.hv_job_acts.specs.hv_acts.specs.hv_telling.proofs.Told.{found-some, opens-told}
use Rattle.hv_job_acts.specs.hv_acts.specs.hv_telling.proofs.Few.{is-short}
use Rattle.hv_job_acts.specs.hv_acts.specs.hv_telling.specs.hv_house.specs.House.{entries_of}
use Rattle.hv_job_acts.specs.hv_acts.specs.hv_telling.specs.hv_house.specs.hv_law_read.proofs.NeedLemmas.{fit-parts}
use Rattle.hv_compact.specs.Writing.{IsStagedIn}

-- ---- its book

pub fitting-trail : (trail : List TrailItem) → AllFit profile nothing_yet (book_of trail) → HasFittingBook trail
fitting-trail trail fit = record { fit = fit; few = (let short = (is-short trail fit).few in omega (arith, short)) }

one-of : (b : Bool) → (b ≡ true) ⊎ (b ≡ false)
one-of true = inl refl
one-of false = inr refl

-- whether it is closed or not
pub told-fitting : {D : Type 0} (told : D → Option Store) (house : ToldHouse D) → IsWholeOrClosed told house.house → IsToldHouse told house.house
    → HasFittingBook (trail_in house)
told-fitting told house kept is = by (one-of house.house.trail.closed)
  where
    by : (house.house.trail.closed ≡ true) ⊎ (house.house.trail.closed ≡ false) → HasFittingBook (trail_in house)
    by (inr running) = fitting-book told house.house (kept.whole running).ready
    by (inl shut) =
        let left = found-some (OpensLater (entries_of house.house)) (told house.house.shelf) (opens-told told house.house (kept.opens is)) in
        let begins = left.2.begins in
        let whole : AllFit profile nothing_yet (entries_of house.house ++ begins.0) =
        subst (λ (book : List Entry). AllFit profile nothing_yet book) begins.1 left.2.opens.left.legal.fit in
        fitting-trail (trail_in house)
        (subst (λ (book : List Entry). AllFit profile nothing_yet book) (sym (book-is house.house))
        (fit-parts nothing_yet (entries_of house.house) begins.0 whole).0)

-- ---- a job

pub found-later : (before now : List TrailItem) → IsFront before now → (number : ℕ) (j : Job) → numbered (state_at before).jobs number ≡ Some j
    → (k : Job) × (numbered (state_at now).jobs number ≡ Some k) × JobLater j k
found-later before now front number j at =
    found-some (JobLater j) (numbered (state_at now).jobs number)
    (subst (λ (s : State). IsSomeAnd (numbered s.jobs number) (JobLater j)) (sym (ap state_at front.is ∙ state-append before front.more))
    (jobs-last (state_at before) (book_of front.more) number j at))

pub some-so : {A : Type 0} (P : A → Type 0) (o : Option A) (x : A) → o ≡ Some x → P x → IsSomeAnd o P
some-so {A = A} P o x is holds = subst (λ (p : Option A). IsSomeAnd p P) (sym is) holds

pub written-later : (before now : List TrailItem) → IsFront before now → (number : ℕ) (place : Place) → HasWritten before (by_job number) place
    → HasWritten now (by_job number) place
written-later before now front number place written =
    subst (λ (items : List TrailItem). HasWritten items (by_job number) place) (sym front.is)
    (Contains-append_left before front.more (Marked (Wrote (by_job number) place)) written)

-- a file that was staged is so later
pub staged-later : (before now : List TrailItem) (job : JobId) (name : DirName) (bucket : ℕ) → IsFront before now → IsStagedIn before job name bucket
    → IsStagedIn now job name bucket
staged-later before now job name bucket front staged =
    let was = found-some (λ (j : Job). HasWritten before (by_job job.0) (staged_at job.0 j name bucket)) (numbered (state_at before).jobs job.0) staged in
    let is = found-later before now front job.0 was.0 was.1 in
    some-so (λ (j : Job). HasWritten now (by_job job.0) (staged_at job.0 j name bucket)) (numbered (state_at now).jobs job.0) is.0 is.1
    (subst (λ (place : Place). HasWritten now (by_job job.0) place) (place-same was.0 is.0 is.2)
    (written-later before now front job.0 (staged_at job.0 was.0 name bucket) was.2))
  where
    place-same : (j k : Job) → JobLater j k → staged_at job.0 j name bucket ≡ staged_at job.0 k name bucket
    place-same j k later = λ i. record {
      table = record { 0 = sym later.table i };
      partition = sym later.partition i;
      dir = staged_text job.0 name;
      bucket = bucket;
    }
