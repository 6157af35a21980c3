-- An opening of the store, a start and an abort leave what commits say that they wrote, and so what a job would merge, what an opening finds, and
-- which jobs it finds whole.
use Rattle.std.proofs.Common.{refl, ◌≡◌, ◌⊎◌, inl, inr, ℕ, zero, suc, ◌+◌, true, false, Option, Some, None, List, [], ◌∷◌, ◌++◌, filter, length, sym, ap, ◌∙◌, subst}
use Rattle.std.specs.Prelude.{if◌then◌else◌, ◌&&◌}
use Rattle.std.specs.FinMap as finmap
use Rattle.std.specs.List.{flat_map, list_all, slice_get}
use Rattle.hv_shelf.specs.declared.place.Place.{Place}
use Rattle.hv_shelf.specs.Disk.{Tree}
use Rattle.hv_stands.specs.hv_history.specs.declared.entry.Cause.{Cause}
use Rattle.hv_stands.specs.hv_history.specs.declared.entry.Entry.{Entry}
use Rattle.hv_stands.specs.hv_history.specs.declared.entry.Entry.TheVariants as entry
use Rattle.hv_stands.specs.hv_history.specs.declared.state.Ending.{Ending}
use Rattle.hv_stands.specs.hv_history.specs.declared.state.Ending.TheVariants.{Aborted}
use Rattle.hv_stands.specs.hv_history.specs.declared.state.Transaction.{Transaction}
use Rattle.hv_stands.specs.hv_history.specs.State.{State, Job, numbered, changed, changed_at, first_of, started, ended, unless_ended, while_open, published_at, acted, after}
use Rattle.hv_stands.specs.hv_history.specs.Legal.{is_working}
use Rattle.hv_stands.specs.hv_history.specs.Jobs.{Pieces, is_job_of, jobs_of, events_by, events_at, events_from, ids_of, events_in, is_up_to, mark_by, pieces_among, pieces_for, is_empty_of}
use Rattle.hv_jobs.specs.Covers.{range_names, names_by, job_names}
use Rattle.hv_jobs.specs.Finals.{unless_bare, final_names, finals_of}
use Rattle.hv_law_made.specs.Made.{is_made, jobs_at, made_recs}
use Rattle.hv_law_made.specs.Standing.{Standing}
use Rattle.hv_law_made.specs.Laws.{Holds, IsFiledFor, is_quiet_entry}
use Rattle.hv_law_made.specs.Entries.{publishing, IsAtWork, IsFinalAt, HasBareFinal, Recovers}
use Rattle.hv_law_made.specs.Opening.{is_listed, is_whole_job, whole_from, whole_jobs, QuietRecovers, QuietKeepsWhole}
use Rattle.hv_law_made.proofs.TableStands.{while-same}
use Rattle.hv_law_made.proofs.OpenStands.{quiet-entries-stand}
use Rattle.hv_law_made.proofs.RenameStands.{publishing-tables}
use Rattle.hv_law_made.proofs.OtherJobs.{named, made-by-names, final-as}
use Rattle.hv_law_visible.specs.Members.{IsIn}

-- ---- what is kept

-- the tables, the jobs, how many transactions there are, and what commits say
pub record KeepsEvents (state now : State) : Type 0 where
  pub tables : now.tables ≡ state.tables
  pub jobs : now.jobs ≡ state.jobs
  pub opened : length now.transactions ≡ length state.transactions
  pub events : (table : ℕ) (partition : List ℕ) → events_in now table partition ≡ events_in state table partition

module _ (state now : State) (keeps : KeepsEvents state now) where
  pub kept-pieces : (job : Job) → pieces_for now job ≡ pieces_for state job
  kept-pieces job =
      λ i. pieces_among job.kind (jobs_of job.table job.partition (keeps.jobs i)) (filter (is_up_to (mark_by job.watermark)) (keeps.events job.table job.partition i))

  pub kept-finals : (job : Job) → finals_of now job ≡ finals_of state job
  kept-finals job =
      λ i. unless_bare (is_empty_of job.kind (kept-pieces job i))
      (final_names (keeps.events job.table job.partition i) job.kind (kept-pieces job i).low (kept-pieces job i).high)

  -- ---- which jobs are whole

  kept-whole-job : (files : Tree) (job : Job) → is_whole_job now files job ≡ is_whole_job state files job
  kept-whole-job files job = ap (λ names. is_working job && list_all (is_listed files job) names) (kept-finals job)

  kept-from : (files : Tree) (number : ℕ) (jobs : List Job) → whole_from now files number jobs ≡ whole_from state files number jobs
  kept-from files number [] = refl
  kept-from files number (job ∷ jobs) =
      λ i. if kept-whole-job files job i then number ∷ kept-from files (number + 1) jobs i else kept-from files (number + 1) jobs i

  pub kept-whole : (files : Tree) → whole_jobs now files ≡ whole_jobs state files
  kept-whole files = ap (whole_from now files 1) keeps.jobs ∙ kept-from files 1 state.jobs

  -- ---- what an opening finds

  job-was : (n : ℕ) (j : Job) → numbered now.jobs n ≡ Some j → numbered state.jobs n ≡ Some j
  job-was n j is = ap (λ js. numbered js n) (sym keeps.jobs) ∙ is

  job-now : (n : ℕ) (j : Job) → numbered state.jobs n ≡ Some j → numbered now.jobs n ≡ Some j
  job-now n j is = ap (λ js. numbered js n) keeps.jobs ∙ is

  abbrev work-was : (n : ℕ) (j : Job) → IsAtWork now n j → IsAtWork state n j
  work-was n j w = record {
    is = job-was n j w.is;
    working = w.working;
    table = w.table;
    table_is = ap (λ ts. numbered ts j.table) (sym keeps.tables) ∙ w.table_is;
    live = w.live;
    some = subst (λ (ps : Pieces). is_empty_of j.kind ps ≡ false) (kept-pieces j) w.some;
  }

  abbrev work-now : (n : ℕ) (j : Job) → IsAtWork state n j → IsAtWork now n j
  work-now n j w = record {
    is = job-now n j w.is;
    working = w.working;
    table = w.table;
    table_is = ap (λ ts. numbered ts j.table) keeps.tables ∙ w.table_is;
    live = w.live;
    some = subst (λ (ps : Pieces). is_empty_of j.kind ps ≡ false) (sym (kept-pieces j)) w.some;
  }

  module _ (n : ℕ) (j : Job) (was : numbered state.jobs n ≡ Some j) where
    abbrev its_step : State → Job → Job
    its_step s = published_at s.entries ((pieces_for s j).low, (pieces_for s j).high, length s.transactions + 1)

    steps-alike : job_names (its_step now j) ≡ job_names (its_step state j)
    steps-alike = λ i. names_by j.kind (first_of j.published ((kept-pieces j i).low, (kept-pieces j i).high, keeps.opened i + 1))

    names-alike : (place : Place) → flat_map job_names (jobs_at (after now (publishing now n j)) place) ≡ flat_map job_names (jobs_at (after state (publishing state n j)) place)
    unfolding acted
    names-alike place =
        let p = is_job_of place.table.0 place.partition in
        ap (λ js. flat_map job_names (filter p (changed (its_step now) js n))) keeps.jobs
        ∙ named p (its_step now) (its_step state) state.jobs n j was refl steps-alike

    told-same : (place : Place) → made_recs (after now (publishing now n j)) place ≡ made_recs (after state (publishing state n j)) place
    told-same place =
        made-by-names (after now (publishing now n j)) (after state (publishing state n j)) place
        (publishing-tables now n j ∙ keeps.tables ∙ sym (publishing-tables state n j)) (names-alike place)

    kept-filed : (files : Tree) → IsFiledFor (publishing state n j) state files → IsFiledFor (publishing now n j) now files
    kept-filed files filed = record {
      at = λ place asks.
          let asked = final-as now state n j (job-now n j was) was (pieces_for now j) (pieces_for state j) (kept-pieces j) place asks in
          subst (λ o. Holds o place.bucket (finmap.get files place)) (sym (told-same place)) (filed.at place asked);
      encoded = tt;
    }

    kept-bare : (files : Tree) (w : IsAtWork now n j) → HasBareFinal state j w.table.writes files → HasBareFinal now j w.table.writes files
    kept-bare files w bare = record {
      name = bare.name;
      among = subst (λ (ps : Pieces). IsIn bare.name (filter (is_made w.table.writes j.partition) (range_names j.kind ps.low ps.high))) (sym (kept-pieces j)) bare.among;
      bare = bare.bare;
    }

    kept-either : (files : Tree) (w : IsAtWork now n j) → IsFiledFor (publishing state n j) state files ⊎ HasBareFinal state j w.table.writes files
        → IsFiledFor (publishing now n j) now files ⊎ HasBareFinal now j w.table.writes files
    kept-either files w (inl filed) = inl (kept-filed files filed)
    kept-either files w (inr bare) = inr (kept-bare files w bare)

  kept-final : (place : Place) → IsFinalAt state place → IsFinalAt now place
  kept-final place final = record {
    number = final.number;
    job = final.job;
    work = work-now final.number final.job final.work;
    final = final-as state now final.number final.job final.work.is (job-now final.number final.job final.work.is)
        (pieces_for state final.job) (pieces_for now final.job) (sym (kept-pieces final.job)) place final.final;
  }

  -- where all that stood stands on
  pub kept-recovers : (files : Tree) (recovers : Recovers state files) → Standing now recovers.before → Recovers now files
  kept-recovers files recovers standing = record {
    before = recovers.before;
    standing = standing;
    but = λ place. elim (recovers.but place) [ inl same ↦ inl same | inr final ↦ inr (kept-final place final) ];
    each = λ n j w. kept-either n j (job-was n j w.is) files w (recovers.each n j (work-was n j w));
  }

-- ---- what commits say, where one transaction is changed

module _ (table : ℕ) (partition : List ℕ) (f : Transaction → Transaction)
    (same : (write : ℕ) (t : Transaction) → events_by table partition write (f t).ending ≡ events_by table partition write t.ending) where
  events-slice : (write : ℕ) (ts : List Transaction) (k n : ℕ)
      → events_at table partition write (slice_get (changed_at f ts k) n) ≡ events_at table partition write (slice_get ts n)
  events-slice write [] k n = refl
  events-slice write (t ∷ ts) zero zero = same write t
  events-slice write (t ∷ ts) zero (suc n) = refl
  events-slice write (t ∷ ts) (suc k) zero = refl
  events-slice write (t ∷ ts) (suc k) (suc n) = events-slice write ts k n

  events-one : (write : ℕ) (ts : List Transaction) (k n : ℕ)
      → events_at table partition write (numbered (changed f ts k) n) ≡ events_at table partition write (numbered ts n)
  events-one write ts k zero = refl
  events-one write ts zero (suc n) = refl
  events-one write ts (suc k) (suc n) = events-slice write ts k n

  pub events-changed : (ts : List Transaction) (k write : ℕ) (owners : List ℕ)
      → events_from (changed f ts k) table partition write owners ≡ events_from ts table partition write owners
  events-changed ts k write [] = refl
  events-changed ts k write (txn ∷ owners) = λ i. events-one write ts k txn i ++ events-changed ts k (write + 1) owners i

length-at : (f : Transaction → Transaction) (ts : List Transaction) (k : ℕ) → length (changed_at f ts k) ≡ length ts
length-at f [] k = refl
length-at f (t ∷ ts) zero = refl
length-at f (t ∷ ts) (suc k) = ap suc (length-at f ts k)

length-changed : (f : Transaction → Transaction) (ts : List Transaction) (k : ℕ) → length (changed f ts k) ≡ length ts
length-changed f ts zero = refl
length-changed f ts (suc k) = length-at f ts k

-- an abort says nothing, as what was open does
abort-says : (table : ℕ) (partition : List ℕ) (write place : ℕ) (cause : Cause) (t : Transaction) (o : Option Ending) → t.ending ≡ o
    → events_by table partition write (unless_ended o t (ended (Aborted place cause) t)).ending ≡ events_by table partition write t.ending
abort-says table partition write place cause t None is = sym (ap (events_by table partition write) is)
abort-says table partition write place cause t (Some e) is = refl

pub quiet-keeps : (state : State) (event : Entry) → is_quiet_entry event ≡ true → KeepsEvents state (after state event)
unfolding acted
quiet-keeps state (entry.Boot run) quiet = record { tables = refl; jobs = refl; opened = refl; events = λ table partition. refl }
quiet-keeps state (entry.Start txn statement) quiet = record {
  tables = refl;
  jobs = refl;
  opened = length-changed (while_open (started state statement)) state.transactions txn.0;
  events = λ table partition.
      events-changed table partition (while_open (started state statement))
      (λ write t. ap (events_by table partition write) (while-same (started state statement) (λ x. refl) t))
      state.transactions txn.0 1 (ids_of (numbered state.tables table));
}
quiet-keeps state (entry.Abort txn cause) quiet = record {
  tables = refl;
  jobs = refl;
  opened = length-changed (while_open (ended (Aborted state.entries cause))) state.transactions txn.0;
  events = λ table partition.
      events-changed table partition (while_open (ended (Aborted state.entries cause)))
      (λ write t. abort-says table partition write state.entries cause t t.ending refl)
      state.transactions txn.0 1 (ids_of (numbered state.tables table));
}
quiet-keeps state (entry.Opened txn session n text) quiet = cc
quiet-keeps state (entry.Given txn table write) quiet = cc
quiet-keeps state (entry.Commit txn wrote) quiet = cc
quiet-keeps state (entry.Create txn table) quiet = cc
quiet-keeps state (entry.Drop txn table) quiet = cc
quiet-keeps state (entry.Asked j table partition kind by) quiet = cc
quiet-keeps state (entry.Picked j mark) quiet = cc
quiet-keeps state (entry.Published j low high mark) quiet = cc
quiet-keeps state (entry.Empty j) quiet = cc
quiet-keeps state (entry.Failed j cause) quiet = cc
quiet-keeps state (entry.Cleaned j) quiet = cc
quiet-keeps state (entry.Forgot table write) quiet = cc
quiet-keeps state (entry.Next txn statement n text) quiet = cc
quiet-keeps state (entry.Did txn statement wrote) quiet = cc
quiet-keeps state (entry.Alter txn table) quiet = cc

pub quiet-recovers : QuietRecovers
quiet-recovers state event files quiet recovers =
    kept-recovers state (after state event) (quiet-keeps state event quiet) files recovers (quiet-entries-stand state event recovers.before quiet recovers.standing)

pub quiet-keeps-whole : QuietKeepsWhole
quiet-keeps-whole state event files quiet = kept-whole state (after state event) (quiet-keeps state event quiet) files
