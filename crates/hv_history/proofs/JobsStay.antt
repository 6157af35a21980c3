-- A job that was busy behind a place was busy there, whatever entries come; so what a statement has asked for it has asked for.
use Rattle.std.proofs.Common.{◌≡◌, ℕ, zero, suc, ◌<◌, Bool, true, false, Option, Some, None, List, [], ◌∷◌, ◌++◌, filter, fold, refl, sym, ap, ◌∙◌, arith}
use Rattle.std.specs.Prelude.{if◌then◌else◌, ◌==◌, ◌&&◌, ◌||◌, nat_eq, is_none}
use Rattle.std.specs.List.{list_any}
use Rattle.std.specs.Cmp.Lexicographic.{pointwise}
use Rattle.std.proofs.lemmas.Bool.{lt-ltb, eq-eqb}
use Rattle.std.proofs.lemmas.List.Folds.{list_any-append}
use Rattle.hv_base.specs.declared.ids.JobId.{JobId}
use Rattle.hv_base.specs.declared.ids.TableId.{TableId}
use Rattle.hv_history.specs.declared.entry.Entry.{Entry}
use Rattle.hv_history.specs.declared.entry.Entry.TheVariants as entry
use Rattle.hv_history.specs.declared.entry.JobCause.{JobCause}
use Rattle.hv_history.specs.declared.entry.JobKind.{JobKind}
use Rattle.hv_history.specs.declared.state.Transaction.{Transaction}
use Rattle.hv_history.specs.Load.{place_of_snapshot}
use Rattle.hv_history.specs.Thresholds.{is_behind_place}
use Rattle.hv_history.specs.State.{State, Job, first_of, changed, changed_at, asked_job, picked, published_at, empty_at, failed_at, cleaned, acted, after}
use Rattle.hv_history.specs.Jobs.{is_job_of, mark_by}
use Rattle.hv_history.specs.JobsTrue.{Ask, is_busy_behind, was_busy, stands_for}

-- ---- a job is one of its own partition

same-text : (text : List ℕ) → pointwise nat_eq text text ≡ true
same-text [] = refl
same-text (b ∷ text) = ap (λ (c : Bool). c && pointwise nat_eq text text) (eq-eqb b b refl) ∙ same-text text

pub its-job : (place : ℕ) (table : ℕ) (partition : List ℕ) (kind : JobKind) (by_ : ℕ) → is_job_of table partition (asked_job place table partition kind by_) ≡ true
its-job place table partition kind by_ =
    ap (λ (c : Bool). c && pointwise nat_eq partition partition) (eq-eqb table table refl) ∙ same-text partition

-- ---- one of a list is so, and stays so

any-filter : (p test : Job → Bool) (jobs : List Job) → list_any test (filter p jobs) ≡ list_any (λ (job : Job). p job && test job) jobs
any-filter p test [] = refl
any-filter p test (job ∷ jobs) = by (p job) (any-filter p test jobs)
  where
    by : (b : Bool) → list_any test (filter p jobs) ≡ list_any (λ (other : Job). p other && test other) jobs
        → list_any test (if b then job ∷ filter p jobs else filter p jobs) ≡ ((b && test job) || list_any (λ (other : Job). p other && test other) jobs)
    by true rest = ap (λ (c : Bool). test job || c) rest
    by false rest = rest

or-left : (a b c : Bool) → (a ≡ true → c ≡ true) → (a || b) ≡ true → (c || b) ≡ true
or-left true b c step h = ap (λ (x : Bool). x || b) (step refl)
or-left false b true step h = refl
or-left false b false step h = h

or-right : (a b c : Bool) → (b ≡ true → c ≡ true) → (a || b) ≡ true → (a || c) ≡ true
or-right true b c step h = refl
or-right false b c step h = step h

module _ (g : Job → Bool) (f : Job → Job) (step : (job : Job) → g job ≡ true → g (f job) ≡ true) where
  any-changed-at : (jobs : List Job) (n : ℕ) → list_any g jobs ≡ true → list_any g (changed_at f jobs n) ≡ true
  any-changed-at [] n h = h
  any-changed-at (job ∷ jobs) zero h = or-left (g job) (list_any g jobs) (g (f job)) (step job) h
  any-changed-at (job ∷ jobs) (suc n) h = or-right (g job) (list_any g jobs) (list_any g (changed_at f jobs n)) (any-changed-at jobs n) h

  any-changed : (jobs : List Job) (n : ℕ) → list_any g jobs ≡ true → list_any g (changed f jobs n) ≡ true
  any-changed jobs zero h = h
  any-changed jobs (suc n) h = any-changed-at jobs n h

any-more : (g : Job → Bool) (jobs more : List Job) → list_any g jobs ≡ true → list_any g (jobs ++ more) ≡ true
any-more g jobs more h = list_any-append g jobs more ∙ ap (λ (b : Bool). b || list_any g more) h

-- ---- one entry more

-- a test of jobs that no step of one makes false, of a state with so many entries
pub record Lasts (entries : ℕ) (g : Job → Bool) : Type 0 where
  pub picks : (mark : ℕ) (job : Job) → g job ≡ true → g (picked mark job) ≡ true
  pub publishes : (range : ℕ × ℕ × ℕ) (job : Job) → g job ≡ true → g (published_at entries range job) ≡ true
  pub empties : (job : Job) → g job ≡ true → g (empty_at entries job) ≡ true
  pub fails : (job : Job) → g job ≡ true → (cause : JobCause) → g (failed_at entries cause job) ≡ true
  pub cleans : (job : Job) → g job ≡ true → g (cleaned job) ≡ true

any-next : (g : Job → Bool) (state : State) (event : Entry) → Lasts state.entries g → list_any g state.jobs ≡ true → list_any g (after state event).jobs ≡ true
unfolding acted
any-next g state (entry.Asked job table partition kind by) lasts h = any-more g state.jobs (asked_job state.entries table.0 partition kind by ∷ []) h
any-next g state (entry.Picked job mark) lasts h = any-changed g (picked mark.0) (lasts.picks mark.0) state.jobs job.0 h
any-next g state (entry.Published job low high mark) lasts h =
    any-changed g (published_at state.entries (low.0, high.0, mark.0)) (lasts.publishes (low.0, high.0, mark.0)) state.jobs job.0 h
any-next g state (entry.Empty job) lasts h = any-changed g (empty_at state.entries) lasts.empties state.jobs job.0 h
any-next g state (entry.Cleaned job) lasts h = any-changed g cleaned lasts.cleans state.jobs job.0 h
any-next g state (entry.Failed job cause) lasts h =
    any-changed g (failed_at state.entries cause) (λ one is. lasts.fails one is cause) state.jobs job.0 h
any-next g state (entry.Boot run) lasts h = h
any-next g state (entry.Opened txn session number text) lasts h = h
any-next g state (entry.Start txn statement) lasts h = h
any-next g state (entry.Given txn table write) lasts h = h
any-next g state (entry.Commit txn wrote) lasts h = h
any-next g state (entry.Abort txn cause) lasts h = h
any-next g state (entry.Create txn table) lasts h = h
any-next g state (entry.Drop txn table) lasts h = h
any-next g state (entry.Forgot table write) lasts h = h
any-next g state (entry.Next txn statement number text) lasts h = h
any-next g state (entry.Did txn statement wrote) lasts h = h
any-next g state (entry.Alter txn table) lasts h = h

-- ---- the two tests

module _ (ask : Ask) where
  abbrev is_of : Job → Bool
  is_of job = is_job_of ask.table ask.partition job

  abbrev busy_test : ℕ → Job → Bool
  busy_test place job = is_of job && is_busy_behind place job

  -- an end at that place, where there was none before
  busy-by : (entries place : ℕ) → place < entries → (b : Bool) (ended : Option ℕ)
      → (b && (is_none ended || is_behind_place (Some place) (mark_by ended))) ≡ true
      → (b && (is_none (first_of ended entries) || is_behind_place (Some place) (mark_by (first_of ended entries)))) ≡ true
  busy-by entries place below b (Some end) h = h
  busy-by entries place below true None h = lt-ltb place entries below
  busy-by entries place below false None h = h

  busy-lasts : (entries place : ℕ) → place < entries → Lasts entries (busy_test place)
  busy-lasts entries place below = record {
    picks = λ mark job h. h;
    publishes = λ range job h. busy-by entries place below (is_of job) job.ended h;
    empties = λ job h. busy-by entries place below (is_of job) job.ended h;
    fails = λ job h cause. busy-by entries place below (is_of job) job.ended h;
    cleans = λ job h. h;
  }

  busy-all : (place : ℕ) (more : List Entry) (state : State) → place < state.entries → list_any (busy_test place) state.jobs ≡ true
      → list_any (busy_test place) (fold after state more).jobs ≡ true
  busy-all place [] state below h = h
  busy-all place (event ∷ more) state below h =
      busy-all place more (after state event) (omega (arith, below)) (any-next (busy_test place) state event (busy-lasts state.entries place below) h)

  pub busy-stays : (place : ℕ) (more : List Entry) (state : State) → place < state.entries → was_busy state place ask ≡ true
      → was_busy (fold after state more) place ask ≡ true
  busy-stays place more state below h =
      any-filter is_of (is_busy_behind place) (fold after state more).jobs
      ∙ busy-all place more state below (sym (any-filter is_of (is_busy_behind place) state.jobs) ∙ h)

  -- so it stands for it
  pub stands-on : (t : Transaction) (more : List Entry) (state : State) → place_of_snapshot t.snapshot < state.entries
      → stands_for state t ask ≡ true → stands_for (fold after state more) t ask ≡ true
  stands-on t more state below busy = busy-stays (place_of_snapshot t.snapshot) more state below busy

  -- behind an Asked it was
  pub busy-behind : (place : ℕ) (jobs : List Job) (job : Job) → is_of job ≡ true → is_none job.ended ≡ true
      → list_any (is_busy_behind place) (filter is_of (jobs ++ job ∷ [])) ≡ true
  busy-behind place jobs job its unended =
      any-filter is_of (is_busy_behind place) (jobs ++ job ∷ [])
      ∙ list_any-append (busy_test place) jobs (job ∷ [])
      ∙ ap (λ (b : Bool). list_any (busy_test place) jobs || (b || false)) (both (is_of job) (is_none job.ended) its unended)
      ∙ or-true (list_any (busy_test place) jobs)
    where
      both : (b c : Bool) → b ≡ true → c ≡ true → (b && (c || is_behind_place (Some place) (mark_by job.ended))) ≡ true
      both true true is it = refl
      both false c is it = cc
      both true false is it = cc

      or-true : (b : Bool) → (b || (true || false)) ≡ true
      or-true true = refl
      or-true false = refl

  -- and so it stands for a statement behind its own one
  pub stands-behind : (t : Transaction) (jobs : List Job) (job : Job) → is_of job ≡ true → is_none job.ended ≡ true
      → list_any (is_busy_behind (place_of_snapshot t.snapshot)) (filter is_of (jobs ++ job ∷ [])) ≡ true
  stands-behind t jobs job its unended = busy-behind (place_of_snapshot t.snapshot) jobs job its unended

-- wherever it stands
pub asked-busy : (state : State) (place : ℕ) (job : JobId) (table : TableId) (partition : List ℕ) (kind : JobKind) (by_ : ℕ)
    → was_busy (after state (entry.Asked job table partition kind by_)) place (record { table = table.0; partition = partition; kind = kind }) ≡ true
unfolding acted
asked-busy state place job table partition kind by_ =
    busy-behind (record { table = table.0; partition = partition; kind = kind }) place state.jobs (asked_job state.entries table.0 partition kind by_)
    (its-job state.entries table.0 partition kind by_) refl
