-- How an act stages a compaction's file.
use Rattle.std.proofs.Common.{◌≡◌, ◌↔◌, ℕ, Bool, true, false, true≢false, Option, Some, None, Result, Ok, Err, List, refl, sym, ap, ◌∙◌, subst}
use Rattle.std.specs.Prelude.{IfErr, IsErrOf, IsTrue, IsSomeAnd}
use Rattle.hv_base.specs.declared.ids.JobId.{JobId}
use Rattle.hv_shelf.specs.declared.place.Place.{Place}
use Rattle.hv_shelf.specs.Disk.{Store}
use Rattle.hv_dirs.specs.declared.names.DirName.{DirName}
use Rattle.hv_history.specs.declared.entry.Entry.{Entry}
use Rattle.hv_history.specs.declared.state.Table.{Table}
use Rattle.hv_history.specs.State.{State, Job, numbered, state_of}
use Rattle.hv_history.specs.Load.{is_working}
use Rattle.hv_history.specs.Jobs.{is_live_one, events_in, pieces_for, is_empty_of}
use Rattle.hv_history.specs.JobsFit.{OfJob, is_live_job}
use Rattle.hv_jobs.specs.Finals.{final_names, unless_bare, finals_of}
use Rattle.hv_law_made.specs.Entries.{IsAtWork}
use Rattle.hv_law_visible.specs.Members.{IsIn}
use Rattle.hv_law_work.specs.Work.{IsJobFile}
use Rattle.hv_trail.specs.declared.trail.Reader.TheVariants as reader
use Rattle.hv_trail.specs.Kept.{trail_of}
use Rattle.hv_trail.specs.Trail.{state_at}
use Rattle.hv_trail.specs.Steps.{Call, Put}
use Rattle.hv_acts.specs.hv_telling.specs.hv_house.specs.declared.fault.HouseFault.TheVariants as house_fault
use Rattle.hv_acts.specs.hv_telling.specs.hv_house.specs.declared.house.House.{House}
use Rattle.hv_acts.specs.hv_telling.specs.hv_house.specs.House.{entries_of}
use Rattle.hv_acts.specs.hv_telling.specs.Telling.{IsWhole}
use Rattle.hv_job_calls.specs.declared.fault.JobFault.{JobFault}
use Rattle.hv_job_calls.specs.declared.fault.JobFault.TheVariants as fault
use Rattle.hv_job_calls.specs.Refusals.{HasGoneJob, IfLive, WorksAt}
use Rattle.hv_job_calls.specs.Staging.{staged_in}
use Rattle.hv_job_calls.specs.Steps.{JobStep, job_call}
use Rattle.hv_job_calls.specs.Tests.{IsGoneOrHouse}
use Rattle.hv_job_calls.proofs.Steps.{err-as, lacked-put}
use Rattle.hv_acts.proofs.Steps.{whole-keeps}
use Rattle.hv_job_acts.specs.declared.fault.JobActFault.{JobActFault}
use Rattle.hv_job_acts.specs.declared.fault.JobActFault.TheVariants as act
use Rattle.hv_job_acts.specs.Answers.{ActStep}
use Rattle.hv_job_acts.specs.Doing.{call_to_stage, IsFileDue, StagesSo}
use Rattle.hv_job_acts.specs.Staging.{FinalIn, with_place}
use Rattle.hv_job_acts.proofs.Passed.{at-trail, at-book, act-step, unfit-step}

-- ---- what it is to make

not-bare : (b : Bool) (name : DirName) (names : List DirName) → IsIn name (unless_bare b names) → b ≡ false
not-bare true name names is = absurd is
not-bare false name names is = refl

live-table : (o : Option Table) → is_live_one o ≡ true → (table : Table) × (o ≡ Some table) × (table.is_live ≡ true)
live-table None e = absurd (true≢false (sym e))
live-table (Some table) e = (table, refl, e)

some-same : (a b : Place) → (◌≡◌ {A = Option Place} (Some a) (Some b)) → a ≡ b
some-same a b e = cc

module _ (state : State) (job : ℕ) (name : DirName) where
  its-final : WorksAt state job → ((j : Job) → numbered state.jobs job ≡ Some j → IsIn name (finals_of state j))
      → OfJob state job (λ (j : Job). IsIn name (finals_of state j))
  its-final = by (numbered state.jobs job) refl
    where
      by : (o : Option Job) → numbered state.jobs job ≡ o → IsSomeAnd o (λ (j : Job). IsTrue (is_working j))
          → ((j : Job) → numbered state.jobs job ≡ Some j → IsIn name (finals_of state j)) → IsSomeAnd o (λ (j : Job). IsIn name (finals_of state j))
      by None e works each = absurd works
      by (Some j) e works each = each j e

  its-file : (bucket : ℕ) (bytes : List ℕ) → WorksAt state job → ((j : Job) → numbered state.jobs job ≡ Some j → IsIn name (finals_of state j))
      → ((j : Job) → IsAtWork state job j → IsJobFile state job name bucket bytes) → IfLive state job (λ (j : Job). IsJobFile state job name bucket bytes)
  its-file bucket bytes = by (numbered state.jobs job) refl
    where
      by : (o : Option Job) → numbered state.jobs job ≡ o → IsSomeAnd o (λ (j : Job). IsTrue (is_working j))
          → ((j : Job) → numbered state.jobs job ≡ Some j → IsIn name (finals_of state j))
          → ((j : Job) → IsAtWork state job j → IsJobFile state job name bucket bytes)
          → IsSomeAnd o (λ (j : Job). is_live_job state j ≡ true → IsJobFile state job name bucket bytes)
      by None e works each due = absurd works
      by (Some j) e works each due = λ live.
          let table = live-table (numbered state.tables j.table) live in
          due j (record {
            is = e;
            working = works;
            table = table.0;
            table_is = table.1;
            live = table.2;
            some = not-bare (is_empty_of j.kind (pieces_for state j)) name
                (final_names (events_in state j.table j.partition) j.kind (pieces_for state j).low (pieces_for state j).high) (each j e);
          })

  -- the place is the one that the book says
  its-place : (bucket : ℕ) (place : Place) (found : Option Place) → WorksAt state job → found ≡ Some place
      → ((j : Job) → numbered state.jobs job ≡ Some j → found ≡ Some (staged_in state job name bucket)) → place ≡ staged_in state job name bucket
  its-place bucket place found = by (numbered state.jobs job) refl
    where
      by : (o : Option Job) → numbered state.jobs job ≡ o → IsSomeAnd o (λ (j : Job). IsTrue (is_working j)) → found ≡ Some place
          → ((j : Job) → numbered state.jobs job ≡ Some j → found ≡ Some (staged_in state job name bucket)) → place ≡ staged_in state job name bucket
      by None e works is each = absurd works
      by (Some j) e works is each = some-same place (staged_in state job name bucket) (sym is ∙ each j e)

-- ---- of a house

module _ {D : Type 0} (house : House D) (job : JobId) (name : DirName) where
  abbrev Its : State
  Its = state_of (entries_of house)

  pub final-of : WorksAt Its job.0 → FinalIn (entries_of house) job.0 name true → OfJob Its job.0 (λ (j : Job). IsIn name (finals_of Its j))
  final-of works final = its-final Its job.0 name works (final refl)

  pub file-of : (bucket : ℕ) (bytes : List ℕ) → WorksAt Its job.0 → FinalIn (entries_of house) job.0 name true
      → IsFileDue (trail_of house.trail) job name bucket bytes → IfLive Its job.0 (λ (j : Job). IsJobFile Its job.0 name bucket bytes)
  file-of bucket bytes works final due =
      its-file Its job.0 name bucket bytes works (final refl)
      (at-book house (λ (state : State). (j : Job) → IsAtWork state job.0 j → IsJobFile state job.0 name bucket bytes) due)

-- the answers of tests that were asked of the same book
pub final-now : {D : Type 0} (house : House D) (job : ℕ) (name : DirName) (entries : List Entry) (final : Bool) → entries ≡ entries_of house
    → FinalIn entries job name final → final ≡ true → FinalIn (entries_of house) job name true
final-now house job name entries final are is so =
    subst (λ (book : List Entry). FinalIn book job name true) are (subst (FinalIn entries job name) so is)

pub place-now : {D : Type 0} (house : House D) (job : ℕ) (name : DirName) (bucket : ℕ) (entries : List Entry) (place : Option Place) → entries ≡ entries_of house
    → ((j : Job) → numbered (state_of entries).jobs job ≡ Some j → place ≡ Some (staged_in (state_of entries) job name bucket))
    → (j : Job) → numbered (state_of (entries_of house)).jobs job ≡ Some j → place ≡ Some (staged_in (state_of (entries_of house)) job name bucket)
place-now house job name bucket entries place are each =
    subst (λ (book : List Entry). (j : Job) → numbered (state_of book).jobs job ≡ Some j → place ≡ Some (staged_in (state_of book) job name bucket)) are each

-- ---- what is promised of it

module _ {D : Type 0} (told : D → Option Store) (faults : D → ℕ) (before now : House D) (was : IsWhole told before) (job : JobId) (name : DirName) (bucket : ℕ)
    (bytes : List ℕ) where
  abbrev Book : State
  Book = state_of (entries_of before)

  abbrev Doing : State → House D → Result Place JobActFault → Type 0
  Doing state to answer = ActStep told faults (call_to_stage state job name bucket bytes answer) before to (StagesSo state job name bucket) answer

  abbrev its_call : Call
  its_call = Put (reader.Job job) (staged_in Book job.0 name bucket) bytes

  pub unstaged : Doing (state_at (trail_of before.trail)) before (Err act.Unfit)
  unstaged = at-trail before (λ (state : State). Doing state before (Err act.Unfit))
      (unfit-step told faults its_call (StagesSo Book job name bucket) before was (record {
        place = tt;
        works = tt;
        gone = λ e. let same : act.Unfit ≡ act.Call fault.Gone = cc in absurd (cc);
        others = tt;
      }))

  failed : (to : House D) (why : JobFault) → JobStep {T = Place} told faults (job_call {T = Place} its_call (Err why)) before to (Err why)
      → (why ≡ fault.Gone → HasGoneJob Book job.0) → IsGoneOrHouse why → Doing Book to (Err (act.Call why))
  failed to why s gone others =
      act-step told faults its_call before to was IsGoneOrHouse (StagesSo Book job name bucket) (Err why) s others (λ no_. no_) (record {
        place = tt;
        works = tt;
        gone = λ e. let same : why ≡ fault.Gone = cc in gone same;
        others = others;
      })

  -- memory lacked for its place
  pub placeless : Doing (state_at (trail_of before.trail)) before (Err (act.Call (fault.House house_fault.NoMemory)))
  placeless = at-trail before (λ (state : State). Doing state before (Err (act.Call (fault.House house_fault.NoMemory))))
      (failed before (fault.House house_fault.NoMemory) (lacked-put told faults before (reader.Job job) (staged_in Book job.0 name bucket) bytes was)
      (λ e. cc) tt)

  module _ (works : WorksAt Book job.0) (place : Place) (found : Option Place) (is : found ≡ Some place)
      (each : (j : Job) → numbered Book.jobs job.0 ≡ Some j → found ≡ Some (staged_in Book job.0 name bucket)) where
    by-call : (r : Result (Unit {0}) JobFault) → JobStep told faults (job_call its_call r) before now r → IsErrOf r fault.Gone ↔ HasGoneJob Book job.0
        → IfErr r IsGoneOrHouse → Doing Book now (with_place place r)
    by-call (Ok done) s gone others =
        let same = its-place Book job.0 name bucket place found works is each in
        subst (λ (p : Place). Doing Book now (Ok p)) (sym same) (record {
          keeps = whole-keeps told now s.whole;
          step = s.step;
          does = record {
            answers = λ open_. record { place = refl; works = works; gone = λ e. cc; others = tt };
            leaves = was.ready.kept.running;
            up = s.later;
          };
        })
    by-call (Err why) s gone others =
        failed now why (err-as told faults (job_call {T = Unit {0}} its_call (Err why)) before now why s)
        (λ same. gone.0 (ap (λ (f : JobFault). Err f) same)) others

    pub staged : (r : Result (Unit {0}) JobFault) (answer : Result Place JobActFault) → answer ≡ with_place place r
        → JobStep told faults (job_call its_call r) before now r → IsErrOf r fault.Gone ↔ HasGoneJob Book job.0 → IfErr r IsGoneOrHouse
        → Doing (state_at (trail_of before.trail)) now answer
    staged r answer said s gone others = at-trail before (λ (state : State). Doing state now answer)
        (subst (λ (x : Result Place JobActFault). Doing Book now x) (sym said) (by-call r s gone others))
