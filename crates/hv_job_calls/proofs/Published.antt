-- A publication of a job of which all is staged.
use Rattle.std.proofs.Common.{◌≡◌, ℕ, ◌+◌, true, false, true≢false, Option, Some, None, Ok, Err, List, length, map, refl, sym, ap, ◌∙◌, subst}
use Rattle.std.specs.Prelude.{IsTrue, IsSomeAnd}
use Rattle.hv_base.specs.declared.ids.JobId.{JobId}
use Rattle.hv_shelf.specs.Disk.{Store}
use Rattle.hv_history.specs.declared.entry.Entry.{Entry}
use Rattle.hv_history.specs.declared.state.Table.{Table}
use Rattle.hv_history.specs.State.{State, Job, numbered, nothing_yet, state_of}
use Rattle.hv_history.specs.Legal.{profile, is_working, Fits, AllFit, AllTruthful}
use Rattle.hv_history.specs.Jobs.{is_live_one, pieces_for, is_empty_of}
use Rattle.hv_history.specs.JobsFit.{OfJob, is_live_job, PublishedFits}
use Rattle.hv_law_made.specs.Entries.{publishing, IsAtWork}
use Rattle.hv_telling.specs.hv_house.specs.hv_law_read.specs.hv_law_whole.proofs.FinalLemmas.{finals-are-said}
use Rattle.hv_telling.specs.hv_law_work.specs.Work.{renaming_of, AreStagedAll}
use Rattle.hv_trail.specs.declared.trail.Reader.TheVariants as reader
use Rattle.hv_trail.specs.declared.trail.Renaming.{Renaming}
use Rattle.hv_trail.specs.Trail.{broken}
use Rattle.hv_trail.specs.Kept.{trail_of}
use Rattle.hv_trail.specs.Steps.{Call, Publish, Done, Step}
use Rattle.hv_telling.specs.hv_house.specs.declared.fault.HouseFault.TheVariants as house
use Rattle.hv_telling.specs.hv_house.specs.declared.house.House.{House}
use Rattle.hv_telling.specs.hv_house.specs.declared.publishing.PublishFault.{PublishFault}
use Rattle.hv_telling.specs.hv_house.specs.declared.publishing.PublishFault.TheVariants as publish
use Rattle.hv_telling.specs.hv_house.specs.House.{entries_of}
use Rattle.hv_telling.specs.hv_house.specs.Publishing.{measured, PublishStepWithin}
use Rattle.hv_telling.specs.hv_house.specs.Steps.{seen_of}
use Rattle.hv_telling.specs.Telling.{IsToldHouse, IsWhole, StaysPublished, StillOpens, IsPublication}
use Rattle.hv_telling.proofs.Told.{whole-shown}
use Rattle.hv_job_calls.specs.declared.fault.JobFault.{JobFault}
use Rattle.hv_job_calls.specs.Refusals.{HasLiveJob, WorksAt, published_by, publishing_of}
use Rattle.hv_job_calls.specs.Staging.{renamings_by, renamings_of}
use Rattle.hv_job_calls.specs.Steps.{call_behind, fault_of, StaysFor, JobStep}
use Rattle.hv_job_calls.specs.Tests.{IsPublishing}

-- ---- the job

pub record IsLiveAtWork (state : State) (number : ℕ) : Type 0 where
  pub job : Job
  pub is : numbered state.jobs number ≡ Some job
  pub works : IsTrue (is_working job)
  pub live : is_live_job state job ≡ true
  pub some : is_empty_of job.kind (pieces_for state job) ≡ false

pub live-at-work : (state : State) (number : ℕ) → WorksAt state number → HasLiveJob state number
    → OfJob state number (λ (j : Job). is_empty_of j.kind (pieces_for state j) ≡ false) → IsLiveAtWork state number
live-at-work state number works live some = by (numbered state.jobs number) refl works live some
  where
    by : (o : Option Job) → numbered state.jobs number ≡ o → IsSomeAnd o (λ (j : Job). IsTrue (is_working j)) → IsSomeAnd o (λ (j : Job). is_live_job state j ≡ true)
        → IsSomeAnd o (λ (j : Job). is_empty_of j.kind (pieces_for state j) ≡ false) → IsLiveAtWork state number
    by None e works live some = absurd works
    by (Some j) e works live some = record { job = j; is = e; works = works; live = live; some = some }

live-table : (o : Option Table) → is_live_one o ≡ true → (table : Table) × (o ≡ Some table) × (table.is_live ≡ true)
live-table None e = absurd (true≢false (sym e))
live-table (Some table) e = (table, refl, e)

-- its entry, of a book that is the same
pub entry-there : (read book : List Entry) (job : JobId) (event : Entry) → read ≡ book
    → ((j : Job) → numbered (state_of read).jobs job.0 ≡ Some j → event ≡ publishing_of read job)
    → (j : Job) → numbered (state_of book).jobs job.0 ≡ Some j → event ≡ publishing_of book job
entry-there read book job event same is =
    subst (λ (b : List Entry). (j : Job) → numbered (state_of b).jobs job.0 ≡ Some j → event ≡ publishing_of b job) same is

module _ (book : List Entry) (job : JobId) (at : IsLiveAtWork (state_of book) job.0) where
  abbrev state : State
  state = state_of book

  its-work : IsAtWork state job.0 at.job
  its-work =
      let table = live-table (numbered state.tables at.job.table) at.live in
      record { is = at.is; working = at.works; table = table.0; table_is = table.1; live = table.2; some = at.some }

  abbrev its : Entry
  its = publishing state job.0 at.job

  -- the entry, as the book says it
  pub entry-is : (event : Entry) → ((j : Job) → numbered state.jobs job.0 ≡ Some j → event ≡ publishing_of book job) → event ≡ its
  entry-is event is = is at.job at.is ∙ ap (published_by state job) at.is

  pub its-fits : Fits profile state its
  its-fits =
      subst (λ o. IsSomeAnd o (PublishedFits state (pieces_for state at.job).low (pieces_for state at.job).high (length state.transactions + 1))) (sym at.is)
      (record { working = at.works; live = at.live; some = at.some; low_is = refl; high_is = refl; mark_is = refl })

  -- and all that is true of it in a house that is told
  module _ {D : Type 0} (told : D → Option Store) (before : House D) (same : entries_of before ≡ book) (whole : IsWhole told before) (is : IsToldHouse told before)
      (unbroken : broken (reader.Job job) (trail_of before.trail) ≡ None)
      (staged : (j : Job) (work : IsAtWork state job.0 j) → AreStagedAll (trail_of before.trail) state job.0 j work.table)
      (renamings : List Renaming) (are : renamings ≡ renamings_of state job.0) (event : Entry) (event_is : event ≡ its) where
    pub publication : IsPublication state (trail_of before.trail) renamings event
    publication =
        let shown = whole-shown told before whole is in
        record {
          number = job.0;
          job = at.job;
          work = its-work;
          event_is = event_is;
          unbroken = unbroken;
          staged = staged at.job its-work;
          renamings_are =
              are ∙ ap (renamings_by state job.0) at.is
              ∙ ap (map (renaming_of job.0 at.job))
              (sym (finals-are-said profile book
              (subst (λ (b : List Entry). AllFit profile nothing_yet b) same shown.2.legal.fit)
              (subst (λ (b : List Entry). AllTruthful nothing_yet b) same shown.2.legal.truthful)
              job.0 at.job its-work));
        }

-- ---- the step

module _ {D : Type 0} (told : D → Option Store) (faults : D → ℕ) (renamings rs : List Renaming) (event e : Entry) (same_rs : renamings ≡ rs) (same_e : event ≡ e)
    (before now : House D) where
  -- the same call
  call-is : Publish renamings event ≡ Publish rs e
  call-is = λ i. Publish (same_rs i) (same_e i)

  pub published-ok : {T : Type 0} (x : T) → IsWhole told now → now.start ≡ before.start
      → PublishStepWithin (measured profile told faults) renamings event before now (Ok tt) → JobStep told faults (Publish rs e) before now (Ok x)
  published-ok x whole start step = record {
    whole = whole;
    stays = tt;
    same = tt;
    opens = λ is. tt;
    start = start;
    step = subst (λ (call : Call). Step told faults call Done (seen_of before) (seen_of now)) call-is step.step;
    later = step.later;
    failed = tt;
  }

  stays-by : (why : PublishFault) → StaysPublished told why now → PublishStepWithin (measured profile told faults) renamings event before now (Err why)
      → StaysFor told (fault_of why) now
  stays-by publish.Starved stays step = tt
  stays-by (publish.House house.Store) stays step = tt
  stays-by (publish.House house.NoMemory) stays step = stays
  stays-by (publish.House (house.Failed count)) stays step = absurd step.ends

  err-by : {T : Type 0} (why : PublishFault) → StaysPublished told why now → (IsToldHouse told before → StillOpens told now) → now.start ≡ before.start
      → PublishStepWithin (measured profile told faults) renamings event before now (Err why)
      → JobStep {T = T} told faults (call_behind (Publish renamings event) (fault_of why)) before now (Err (fault_of why))
  err-by publish.Starved stays opens start step = record {
    whole = tt;
    stays = tt;
    same = tt;
    opens = opens;
    start = start;
    step = step.step;
    later = step.later;
    failed = tt;
  }
  err-by (publish.House why) stays opens start step = record {
    whole = tt;
    stays = stays-by (publish.House why) stays step;
    same = tt;
    opens = opens;
    start = start;
    step = step.step;
    later = step.later;
    failed = step.failed;
  }

  pub published-err : {T : Type 0} (why : PublishFault) (x : JobFault) → x ≡ fault_of why → StaysPublished told why now
      → (IsToldHouse told before → StillOpens told now) → now.start ≡ before.start
      → PublishStepWithin (measured profile told faults) renamings event before now (Err why)
      → JobStep {T = T} told faults (call_behind (Publish rs e) x) before now (Err x)
  published-err {T = T} why x is stays opens start step =
      subst (λ (w : JobFault). JobStep {T = T} told faults (call_behind (Publish rs e) w) before now (Err w)) (sym is)
      (subst (λ (call : Call). JobStep {T = T} told faults (call_behind call (fault_of why)) before now (Err (fault_of why))) call-is
      (err-by why stays opens start step))

pub is-publishing : (why : PublishFault) (x : JobFault) → x ≡ fault_of why → IsPublishing x
is-publishing publish.Starved x is = subst IsPublishing (sym is) tt
is-publishing (publish.House why) x is = subst IsPublishing (sym is) tt
