-- What acts list and get.
use Rattle.std.proofs.Common.{◌≡◌, ◌↔◌, ℕ, Bool, true, false, Option, Some, None, Result, Ok, Err, List, refl, sym, subst}
use Rattle.std.specs.Prelude.{IfOk, IfErr, IsErrOf, IsTrue, IsSomeAnd}
use Rattle.std.specs.FinMap as tree
use Rattle.std.specs.Global.{Vec}
use Rattle.hv_base.specs.Told.{Tells}
use Rattle.hv_base.specs.declared.ids.JobId.{JobId}
use Rattle.hv_base.specs.declared.ids.TableId.{TableId}
use Rattle.hv_shelf.specs.declared.place.Place.{Place}
use Rattle.hv_shelf.specs.Disk.{Store, places_of}
use Rattle.hv_rowfile.specs.declared.record.Rec.{Rec}
use Rattle.hv_history.specs.declared.entry.Entry.{Entry}
use Rattle.hv_history.specs.State.{State, Job, numbered, state_of}
use Rattle.hv_history.specs.Legal.{is_working}
use Rattle.hv_history.specs.JobsFit.{is_live_job}
use Rattle.hv_law_made.specs.Standing.{IsEncodingOf}
use Rattle.hv_trail.specs.declared.trail.Reader.TheVariants as reader
use Rattle.hv_trail.specs.Kept.{trail_of}
use Rattle.hv_trail.specs.Trail.{book_of}
use Rattle.hv_trail.specs.Steps.{Call, Read}
use Rattle.hv_acts.specs.hv_telling.specs.hv_house.specs.declared.house.House.{House}
use Rattle.hv_acts.specs.hv_telling.specs.hv_house.specs.declared.listing.Listing.{Listing}
use Rattle.hv_acts.specs.hv_telling.specs.hv_house.specs.House.{entries_of}
use Rattle.hv_acts.specs.hv_telling.specs.hv_house.specs.Steps.{seen_of}
use Rattle.hv_acts.specs.hv_telling.specs.Telling.{IsToldHouse, IsWhole}
use Rattle.hv_job_calls.specs.declared.fault.JobFault.{JobFault}
use Rattle.hv_job_calls.specs.declared.fault.JobFault.TheVariants as fault
use Rattle.hv_job_calls.specs.Listing.{job_list, AreTakenFor}
use Rattle.hv_job_calls.specs.Refusals.{WorksAt, HasGoneJob, HasLiveJob, IsStandingAt}
use Rattle.hv_job_calls.specs.Steps.{JobStep, job_call}
use Rattle.hv_job_calls.specs.Tests.{IsHouse, IsGoneOrHouse, GetsOrHouse}
use Rattle.hv_acts.proofs.Steps.{book-is, whole-keeps, keeps-behind}
use Rattle.hv_job_acts.specs.declared.fault.JobActFault.{JobActFault}
use Rattle.hv_job_acts.specs.declared.fault.JobActFault.TheVariants as act
use Rattle.hv_job_acts.specs.Answers.{in_act, answer_call, ActStep}
use Rattle.hv_job_acts.specs.Doing.{ListsSo, GetsSo}
use Rattle.hv_job_acts.specs.Reading.{PlacesSo, found_in}
use Rattle.hv_job_acts.proofs.Passed.{act-step, unfit-step, rose-leaves}
use Rattle.hv_job_acts.proofs.Refusing.{refused-if, others-in, others-or, ok-in, always-ok, never-unfit}

-- ---- a job at work, whose table wasn't dropped

live-one : (state : State) (found : Option Job) → IsSomeAnd found (λ (j : Job). IsTrue (is_working j))
    → (IsSomeAnd found (λ (j : Job). is_live_job state j ≡ false) → ⊥) → IsSomeAnd found (λ (j : Job). is_live_job state j ≡ true)
live-one state None works not_gone = absurd works
live-one state (Some j) works not_gone = by (is_live_job state j) refl
  where
    by : (live : Bool) → is_live_job state j ≡ live → is_live_job state j ≡ true
    by true is = is
    by false is = absurd (not_gone is)

live-job : (state : State) (job : ℕ) → WorksAt state job → (HasGoneJob state job → ⊥) → HasLiveJob state job
live-job state job works not_gone = live-one state (numbered state.jobs job) works not_gone

-- ---- what is listed

module _ {D : Type 0} (told : D → Option Store) (faults : D → ℕ) (before now : House D) (was : IsWhole told before) where
  abbrev Book : List Entry
  Book = entries_of before

  abbrev Trailed : List Entry
  Trailed = book_of (trail_of before.trail)

  pub places-listed : (table : TableId) (r : Result (Vec Place) JobFault) (answer : Result (Vec Place) JobActFault) → answer ≡ in_act r
      → JobStep told faults (job_call (Read None) r) before now r
      → IfOk r (λ places. Tells (told before.shelf) (λ s. places.items ≡ places_of table s.tree)) → IfErr r IsHouse
      → ActStep told faults (answer_call (Read None) answer) before now (PlacesSo told (seen_of before) table) answer
  places-listed table r answer is step places others =
      subst (λ (x : Result (Vec Place) JobActFault). ActStep told faults (answer_call (Read None) x) before now (PlacesSo told (seen_of before) table) x) (sym is)
      (act-step told faults (Read None) before now was IsHouse (PlacesSo told (seen_of before) table) r step others (λ no_. no_) (record {
        places = ok-in r (λ places. Tells (told before.shelf) (λ s. places.items ≡ places_of table s.tree)) places;
        others = others-in r IsHouse others;
      }))

  module _ (job : JobId) where
    abbrev call : Call
    call = Read (Some (reader.Job job))

    -- ---- a job that isn't at work

    pub idle-listed : (WorksAt (state_of Book) job.0 → ⊥)
        → ActStep told faults (answer_call {T = Listing} call (Err act.Unfit)) before before (ListsSo told (seen_of before) job) (Err act.Unfit)
    idle-listed idle = unfit-step told faults call (ListsSo told (seen_of before) job) before was (record {
      works = tt;
      list = tt;
      files = tt;
      gone = λ e. let same : act.Unfit ≡ act.Call fault.Gone = cc in absurd (cc);
      unfit = λ e works. idle (subst (λ (book : List Entry). WorksAt (state_of book) job.0) (book-is before) works);
      others = tt;
    })

    pub idle-got : (place : Place) → (WorksAt (state_of Book) job.0 → ⊥)
        → ActStep told faults (answer_call {T = Option (Vec ℕ)} call (Err act.Unfit)) before before (GetsSo told (seen_of before) job place) (Err act.Unfit)
    idle-got place idle = unfit-step told faults call (GetsSo told (seen_of before) job place) before was (record {
      works = tt;
      live = tt;
      got = tt;
      made = λ deletes recs is stands. tt;
      gone = λ e. let same : act.Unfit ≡ act.Call fault.Gone = cc in absurd (cc);
      unfit = λ e works. idle (subst (λ (book : List Entry). WorksAt (state_of book) job.0) (book-is before) works);
      others = tt;
    })

    -- ---- its files

    abbrev ListIs : List Entry → Listing → Type 0
    ListIs book listing = (j : Job) → numbered (state_of book).jobs job.0 ≡ Some j → listing.list ≡ job_list book j

    abbrev FilesAre : List Entry → Listing → Type 0
    FilesAre book listing = (j : Job) → numbered (state_of book).jobs job.0 ≡ Some j → Tells (told before.shelf) (λ s. AreTakenFor j listing s.tree)

    pub job-listed : (r : Result Listing JobFault) (answer : Result Listing JobActFault) → answer ≡ in_act r
        → JobStep told faults (job_call call r) before now r → WorksAt (state_of Book) job.0 → IfOk r (ListIs Book) → IfOk r (FilesAre Book)
        → IsErrOf r fault.Gone ↔ HasGoneJob (state_of Book) job.0 → IfErr r IsGoneOrHouse
        → ActStep told faults (answer_call call answer) before now (ListsSo told (seen_of before) job) answer
    job-listed r answer is step works list files gone others =
        subst (λ (x : Result Listing JobActFault). ActStep told faults (answer_call call x) before now (ListsSo told (seen_of before) job) x) (sym is)
        (act-step told faults call before now was IsGoneOrHouse (ListsSo told (seen_of before) job) r step others (λ no_. no_) (record {
          works = always-ok r (WorksAt (state_of Trailed) job.0) (subst (λ (book : List Entry). WorksAt (state_of book) job.0) (sym (book-is before)) works);
          list = ok-in r (ListIs Trailed) (subst (λ (book : List Entry). IfOk r (ListIs book)) (sym (book-is before)) list);
          files = ok-in r (FilesAre Trailed) (subst (λ (book : List Entry). IfOk r (FilesAre book)) (sym (book-is before)) files);
          gone = refused-if r fault.Gone (HasGoneJob (state_of Trailed) job.0)
              (λ e. subst (λ (book : List Entry). HasGoneJob (state_of book) job.0) (sym (book-is before)) (gone.0 e));
          unfit = λ e works_. never-unfit r ⊥ e;
          others = others-or r IsGoneOrHouse others;
        }))

    -- ---- the bytes of one

    abbrev MadeIs : List Entry → Place → Result (Vec ℕ) JobFault → Type 0
    MadeIs book place r =
        (deletes : Bool) (recs : List Rec) → IsToldHouse told before → IsStandingAt (state_of book) place deletes recs
        → IfOk r (λ (bytes : Vec ℕ). IsEncodingOf deletes place.bucket recs bytes.items)

    abbrev FoundIs : List Entry → Place → Result (Vec ℕ) JobFault → Type 0
    FoundIs book place r =
        (deletes : Bool) (recs : List Rec) → IsToldHouse told before → IsStandingAt (state_of book) place deletes recs → IsErrOf r fault.NotFound → ⊥

    module _ (place : Place) where
      -- it is got
      bytes-got : (bytes : Vec ℕ) → JobStep told faults call before now (Ok bytes) → WorksAt (state_of Book) job.0 → HasLiveJob (state_of Book) job.0
          → Tells (told before.shelf) (λ s. tree.get s.tree place ≡ Some bytes.items) → MadeIs Book place (Ok bytes)
          → ActStep told faults call before now (GetsSo told (seen_of before) job place) (Ok (Some bytes))
      bytes-got bytes s works live got made = record {
        keeps = whole-keeps told now s.whole;
        step = s.step;
        does = record {
          answers = λ open_. record {
            works = subst (λ (book : List Entry). WorksAt (state_of book) job.0) (sym (book-is before)) works;
            live = subst (λ (book : List Entry). HasLiveJob (state_of book) job.0) (sym (book-is before)) live;
            got = got;
            made = subst (λ (book : List Entry). MadeIs book place (Ok bytes)) (sym (book-is before)) made;
            gone = λ e. cc;
            unfit = λ e works_. cc;
            others = tt;
          };
          leaves = was.ready.kept.running;
          up = s.later;
        };
      }

      -- none stands there
      none-got : JobStep {T = Vec ℕ} told faults call before now (Err fault.NotFound) → WorksAt (state_of Book) job.0 → HasLiveJob (state_of Book) job.0
          → Tells (told before.shelf) (λ s. tree.get s.tree place ≡ None) → FoundIs Book place (Err fault.NotFound)
          → ActStep told faults call before now (GetsSo told (seen_of before) job place) (Ok None)
      none-got s works live none found = record {
        keeps = whole-keeps told now s.stays;
        step = s.step;
        does = record {
          answers = λ open_. record {
            works = subst (λ (book : List Entry). WorksAt (state_of book) job.0) (sym (book-is before)) works;
            live = subst (λ (book : List Entry). HasLiveJob (state_of book) job.0) (sym (book-is before)) live;
            got = none;
            made = λ deletes recs is stands.
                subst (λ (book : List Entry). FoundIs book place (Err fault.NotFound)) (sym (book-is before)) found deletes recs is stands refl;
            gone = λ e. cc;
            unfit = λ e works_. cc;
            others = tt;
          };
          leaves = was.ready.kept.running;
          up = s.later;
        };
      }

      -- the table was dropped
      gone-got : JobStep {T = Vec ℕ} told faults (job_call {T = Vec ℕ} call (Err fault.Gone)) before now (Err fault.Gone) → HasGoneJob (state_of Book) job.0
          → ActStep told faults (answer_call {T = Option (Vec ℕ)} call (Err (act.Call fault.Gone))) before now (GetsSo told (seen_of before) job place)
          (Err (act.Call fault.Gone))
      gone-got s gone = record {
        keeps = whole-keeps told now s.stays;
        step = s.step;
        does = record {
          answers = λ open_. record {
            works = tt;
            live = tt;
            got = tt;
            made = λ deletes recs is stands. tt;
            gone = λ e. subst (λ (book : List Entry). HasGoneJob (state_of book) job.0) (sym (book-is before)) gone;
            unfit = λ e works_. let same : act.Call fault.Gone ≡ act.Unfit = cc in absurd (cc);
            others = tt;
          };
          leaves = was.ready.kept.running;
          up = s.later;
        };
      }

      pub job-got : (r : Result (Vec ℕ) JobFault) (answer : Result (Option (Vec ℕ)) JobActFault) → answer ≡ found_in r
          → JobStep told faults (job_call call r) before now r → WorksAt (state_of Book) job.0
          → IfOk r (λ (bytes : Vec ℕ). Tells (told before.shelf) (λ s. tree.get s.tree place ≡ Some bytes.items))
          → (IsErrOf r fault.NotFound → Tells (told before.shelf) (λ s. tree.get s.tree place ≡ None))
          → MadeIs Book place r → FoundIs Book place r → IsErrOf r fault.Gone ↔ HasGoneJob (state_of Book) job.0 → IfErr r GetsOrHouse
          → ActStep told faults (answer_call call answer) before now (GetsSo told (seen_of before) job place) answer
      job-got r answer is step works got none made found gone others =
          subst (λ (x : Result (Option (Vec ℕ)) JobActFault). ActStep told faults (answer_call call x) before now (GetsSo told (seen_of before) job place) x) (sym is)
          (by r step got none made found gone others)
        where
          by : (q : Result (Vec ℕ) JobFault) → JobStep told faults (job_call call q) before now q
              → IfOk q (λ (bytes : Vec ℕ). Tells (told before.shelf) (λ s. tree.get s.tree place ≡ Some bytes.items))
              → (IsErrOf q fault.NotFound → Tells (told before.shelf) (λ s. tree.get s.tree place ≡ None))
              → MadeIs Book place q → FoundIs Book place q → IsErrOf q fault.Gone ↔ HasGoneJob (state_of Book) job.0 → IfErr q GetsOrHouse
              → ActStep told faults (answer_call call (found_in q)) before now (GetsSo told (seen_of before) job place) (found_in q)
          by (Ok bytes) s has lacks is_made is_found is_gone rest =
              bytes-got bytes s works
              (live-job (state_of Book) job.0 works
              (λ dropped. let same : ◌≡◌ {A = Result (Vec ℕ) JobFault} (Ok bytes) (Err fault.Gone) = is_gone.1 dropped in absurd (cc)))
              has is_made
          by (Err fault.NotFound) s has lacks is_made is_found is_gone rest =
              none-got s works
              (live-job (state_of Book) job.0 works
              (λ dropped. let same : ◌≡◌ {A = Result (Vec ℕ) JobFault} (Err fault.NotFound) (Err fault.Gone) = is_gone.1 dropped in absurd (cc)))
              (lacks refl) is_found
          by (Err fault.Gone) s has lacks is_made is_found is_gone rest = gone-got s (is_gone.0 refl)
          by (Err (fault.Full entries)) s has lacks is_made is_found is_gone rest = absurd rest
          by (Err (fault.Needed txn)) s has lacks is_made is_found is_gone rest = absurd rest
          by (Err (fault.StillListed dir)) s has lacks is_made is_found is_gone rest = absurd rest
          by (Err (fault.Working other)) s has lacks is_made is_found is_gone rest = absurd rest
          by (Err fault.Starved) s has lacks is_made is_found is_gone rest = absurd rest
          by (Err (fault.House why)) s has lacks is_made is_found is_gone rest = record {
            keeps = keeps-behind told before now why was s.stays s.opens s.start s.step.closed;
            step = s.step;
            does = record {
              answers = λ open_. record {
                works = tt;
                live = tt;
                got = tt;
                made = λ deletes recs is_ stands. tt;
                gone = λ e. let same : fault.House why ≡ fault.Gone = cc in absurd (cc);
                unfit = λ e works_. let same : act.Call (fault.House why) ≡ act.Unfit = cc in absurd (cc);
                others = tt;
              };
              leaves = rose-leaves told faults why before now was.ready.kept.running s.failed;
              up = s.later;
            };
          }
