-- Such a step changes no directory: what was made is made, what was free is free. What is cleaned anew is at places that are asked of.
use Rattle.std.proofs.Common.{refl, ◌≡◌, ◌⊎◌, inl, inr, ℕ, ◌==◌, ◌&&◌, nat_eq, Bool, true, false, cond, IsSome, Some, None, List, ◌++◌, map, sym, ap, ◌∙◌, subst, eqb-true}
use Rattle.std.specs.Cmp.Lexicographic.{pointwise}
use Rattle.std.specs.List.{flat_map}
use Rattle.hv_shelf.specs.declared.place.Place.{Place}
use Rattle.hv_dirs.specs.declared.names.DirName.{DirName}
use Rattle.hv_stands.specs.hv_history.specs.declared.state.Table.{Table}
use Rattle.hv_stands.specs.hv_history.specs.State.{State, Job, numbered, changed}
use Rattle.hv_stands.specs.Files.{IsLoose, IsOwn, IsUndone, ending_of}
use Rattle.hv_stands.proofs.Numbers.{either, same_one, changed-here, numbered-changed}
use Rattle.hv_stands.specs.hv_history.specs.Jobs.{is_job_of, jobs_of}
use Rattle.hv_jobs.specs.Covers.{job_names, is_freed, is_cleaned_away}
use Rattle.hv_law_made.specs.Made.{write_names, names_in, is_made, jobs_at, is_gone_in, is_gone}
use Rattle.hv_law_made.specs.Named.{AllHaveNames}
use Rattle.hv_law_made.specs.Standing.{IsStagedAt, is_live_table, is_live_at}
use Rattle.hv_law_made.proofs.GrowLemmas.{is_name_of, recs-nowhere, GrowsAt, Grows}
use Rattle.hv_law_made.proofs.StepLemmas.{IsStep, job-of-same, names-same, freed-same}
use Rattle.hv_law_visible.specs.Members.{IsIn}

pub gone-nowhere : (state : State) (place : Place) → numbered state.tables place.table.0 ≡ None → is_gone state place ≡ false
unfolding is_gone
gone-nowhere state place none = ap (is_gone_in state place) none

-- ---- tables and transactions as they were

module _ (state now : State) (Asked : Place → Type 0) (tables_same : now.tables ≡ state.tables) (transactions_same : now.transactions ≡ state.transactions) where
  table-same : (place : Place) → numbered now.tables place.table.0 ≡ numbered state.tables place.table.0
  table-same place = ap (λ tables. numbered tables place.table.0) tables_same

  live-same : (place : Place) → is_live_at now place ≡ is_live_at state place
  live-same place = ap is_live_table (table-same place)

  loose-still : (place : Place) → IsLoose state place → IsLoose now place
  loose-still place loose = record {
    txn = loose.txn;
    own = subst (λ tables. IsOwn tables loose.txn place) (sym tables_same) loose.own;
    undone = subst (λ transactions. IsUndone (numbered (map ending_of transactions) loose.txn)) (sym transactions_same) loose.undone;
  }

  pub jobs-grow : AllHaveNames state → AllHaveNames now → ((place : Place) → IsStagedAt state place → IsStagedAt now place)
      → ((place : Place) (table : Table) → numbered state.tables place.table.0 ≡ Some table → GrowsAt state now (Asked place) place table table)
      → Grows state now Asked
  jobs-grow named named_now staged at = record {
    named = named;
    named_now = named_now;
    each = λ place before e. (before, table-same place ∙ e, at place before e);
    none = λ place e. (recs-nowhere now place (table-same place ∙ e), gone-nowhere now place (table-same place ∙ e));
    loose = λ place loose. inl (loose-still place loose);
    staged = staged;
    dead = λ place e. live-same place ∙ e;
    live = λ place e. sym (live-same place) ∙ e;
  }

-- ---- one job changed

module _ (state now : State) (f : Job → Job) (number : ℕ) (jobs_are : now.jobs ≡ changed f state.jobs number)
    (here_same : (table : ℕ) (partition : List ℕ) (job : Job) → is_job_of table partition (f job) ≡ is_job_of table partition job)
    (job : Job) (is : numbered state.jobs number ≡ Some job) (picks : (j : Job) → IsSome j.watermark → IsSome (f j).watermark) where
  pub staged-changed : (place : Place) → IsStagedAt state place → IsStagedAt now place
  staged-changed place staged = elim (either (staged.number == number)) [
    | inl e ↦
        let one : staged.number ≡ number = eqb-true staged.number number e in
        let same : staged.job ≡ job = same_one (numbered state.jobs number) staged.job job (ap (numbered state.jobs) (sym one) ∙ staged.is) is in
        record {
          number = staged.number;
          job = f job;
          is = ap (λ jobs. numbered jobs staged.number) jobs_are ∙ ap (numbered (changed f state.jobs number)) one ∙ changed-here f state.jobs number job is;
          here = here_same place.table.0 place.partition job ∙ subst (λ j. is_job_of place.table.0 place.partition j ≡ true) same staged.here;
          picked = picks job (subst (λ (j : Job). IsSome j.watermark) same staged.picked);
          name = staged.name;
          named = staged.named;
          dir = staged.dir;
        }
    | inr e ↦ record {
      number = staged.number;
      job = staged.job;
      is = ap (λ jobs. numbered jobs staged.number) jobs_are ∙ numbered-changed f state.jobs number staged.number job is
          ∙ ap (λ b. cond b (Some (f job)) (numbered state.jobs staged.number)) e ∙ staged.is;
      here = staged.here;
      picked = staged.picked;
      name = staged.name;
      named = staged.named;
      dir = staged.dir;
    }
  ]

-- the jobs make and free what they did, and stage it
pub record KeepsJobs (state now : State) : Type 0 where
  pub tables : now.tables ≡ state.tables
  pub transactions : now.transactions ≡ state.transactions
  pub names : (table : ℕ) (partition : List ℕ) → flat_map job_names (jobs_of table partition now.jobs) ≡ flat_map job_names (jobs_of table partition state.jobs)
  pub freed : (table : ℕ) (partition : List ℕ) (name : DirName)
      → is_freed now (jobs_of table partition now.jobs) name ≡ is_freed state (jobs_of table partition state.jobs) name
  pub staged : (place : Place) → IsStagedAt state place → IsStagedAt now place

module _ (state now : State) (keeps : KeepsJobs state now) (Asked : Place → Type 0) (named : AllHaveNames state) (named_now : AllHaveNames now)
    (cleaned : (place : Place) (table : Table) → numbered state.tables place.table.0 ≡ Some table → (name : DirName) → is_name_of state table place name
    → is_made table.writes place.partition name ≡ true → is_cleaned_away (jobs_at now place) name ≡ true
    → (is_cleaned_away (jobs_at state place) name ≡ true) ⊎ Asked place) where
  names-in-same : (table : Table) (place : Place) → names_in table.writes (jobs_at now place) ≡ names_in table.writes (jobs_at state place)
  names-in-same table place = ap (λ names. flat_map write_names table.writes ++ names) (keeps.names place.table.0 place.partition)

  step-at : (place : Place) (table : Table) → numbered state.tables place.table.0 ≡ Some table → GrowsAt state now (Asked place) place table table
  step-at place table here = record {
    shape = refl;
    names = λ name at. (subst (IsIn name) (sym (names-in-same table place)) at.0, at.1);
    files = λ name at. refl;
    made = λ name at. refl;
    freed = λ name at e. keeps.freed place.table.0 place.partition name ∙ e;
    new = λ name at. inl (subst (IsIn name) (names-in-same table place) at.0, at.1);
    cleaned = cleaned place table here;
  }

  pub kept-grows : Grows state now Asked
  kept-grows = jobs-grow state now Asked keeps.tables keeps.transactions named named_now keeps.staged step-at

-- ---- a step does

pub step-keeps : (state now : State) (f : Job → Job) (number : ℕ) (step : IsStep state now f number) (job : Job) → numbered state.jobs number ≡ Some job
    → ((j : Job) → IsSome j.watermark → IsSome (f j).watermark) → KeepsJobs state now
step-keeps state now f number step job is picks = record {
  tables = step.tables;
  transactions = step.transactions;
  names = names-same state now f number step;
  freed = freed-same state now f number step;
  staged = staged-changed state now f number step.jobs (job-of-same state now f number step) job is picks;
}
