-- What a cleaner knows of a book stays so in every longer one: which jobs are there and what they cover, which write ids are lost, and
-- which tables were dropped.
use Rattle.std.proofs.Common.{◌≡◌, inl, inr, ℕ, zero, suc, ◌+◌, ◌<◌, Bool, true, false, true≢false, IsSome, Option, Some, None, List, [], ◌∷◌, ◌++◌, fold, map, length, refl, sym, ap, ◌∙◌, subst, arith}
use Rattle.std.specs.Prelude.{IsSomeAnd, is_some, get_or}
use Rattle.std.specs.List.{slice_get, AllByRecursion}
use Rattle.hv_base.specs.declared.ids.JobId.{JobId}
use Rattle.hv_shelf.specs.declared.place.DirAt.{DirAt}
use Rattle.hv_dirs.specs.declared.names.DirName.{DirName}
use Rattle.hv_history.specs.declared.entry.Entry.{Entry}
use Rattle.hv_history.specs.declared.entry.Entry.TheVariants as entry
use Rattle.hv_history.specs.declared.state.Ending.{Ending}
use Rattle.hv_history.specs.declared.state.Table.{Table}
use Rattle.hv_history.specs.declared.state.Transaction.{Transaction}
use Rattle.hv_history.specs.declared.state.Written.{Written}
use Rattle.hv_history.specs.State.{State, Job, numbered, changed, owned, written_to, dropped, forgot, commits, tables_behind, made_by, acted, after}
use Rattle.hv_history.specs.JobsFit.{is_aborted_by, is_aborted_one, is_aborted_id}
use Rattle.hv_history.specs.Lasting.{IsFront, Later, TableLater}
use Rattle.hv_history.proofs.LastingLaws.{kept-more, kept-changed}
use Rattle.hv_jobs.specs.Covers.{covers, covers_by}
use Rattle.hv_law_jobs.specs.Lasting.{JobLater}
use Rattle.hv_law_jobs.proofs.LastLemmas.{jobs-last}
use Rattle.hv_trail.specs.declared.trail.TrailItem.{TrailItem}
use Rattle.hv_trail.specs.Trail.{book_of, state_at}
use Rattle.hv_trail.proofs.LastingLaws.{state-append, goes-on-front}
use Rattle.hv_job_acts.specs.hv_job_calls.specs.Refusals.{IsCoveredDir, IsLostId, CanSweep}
use Rattle.hv_job_acts.specs.declared.asking.LostId.{LostId}
use Rattle.hv_clean.specs.Removing.{IsKnown, AreKnown, IsCoveredFor, AreCoveredDirs, IsLost, AreLost, AreSweepable, IsDropped, AreTables}
use Rattle.hv_clean.proofs.Moved.{front-more}

pub found : {A : Type 0} (P : A → Type 0) (o : Option A) → IsSomeAnd o P → (x : A) × (o ≡ Some x) × P x
found P None is = absurd is
found P (Some x) is = (x, refl, is)

pub has : {A : Type 0} (P : A → Type 0) (o : Option A) (x : A) → o ≡ Some x → P x → IsSomeAnd o P
has P o x is p = subst (λ (q : Option _). IsSomeAnd q P) (sym is) p

pub all-lasts : {A : Type 0} (P Q : A → Type 0) → ((x : A) → P x → Q x) → (xs : List A) → AllByRecursion P xs → AllByRecursion Q xs
all-lasts P Q step [] all = tt
all-lasts P Q step (x ∷ xs) all = (step x all.0, all-lasts P Q step xs all.1)

-- ---- a table that was dropped stays so

abbrev StaysDropped : Table → Table → Type 0
StaysDropped t u = t.is_live ≡ false → u.is_live ≡ false

dropped-same : (t : Table) → StaysDropped t t
dropped-same t is = is

stays : (o : Option Table) (t : Table) → o ≡ Some t → IsSomeAnd o (StaysDropped t)
stays o t is = has (StaysDropped t) o t is (dropped-same t)

stays-then : (t : Table) (o p : Option Table) → IsSomeAnd o (StaysDropped t) → ((u : Table) → o ≡ Some u → IsSomeAnd p (StaysDropped u))
    → IsSomeAnd p (StaysDropped t)
stays-then t None p here next = absurd here
stays-then t (Some u) None here next = next u refl
stays-then t (Some u) (Some v) here next = λ is. next u refl (here is)

behind-stays : (ws : List (ℕ × Written)) (tables : List Table) (n : ℕ) (t : Table) → numbered tables n ≡ Some t
    → IsSomeAnd (numbered (tables_behind ws tables) n) (StaysDropped t)
behind-stays [] tables n t is = stays (numbered tables n) t is
behind-stays (w ∷ ws) tables n t is =
    stays-then t (numbered (changed (written_to w.1) tables w.0) n) (numbered (tables_behind ws (changed (written_to w.1) tables w.0)) n)
    (kept-changed StaysDropped dropped-same (written_to w.1) (λ x. dropped-same x) tables w.0 n t is)
    (λ u at. behind-stays ws (changed (written_to w.1) tables w.0) n u at)

one-stays : (state : State) (event : Entry) (n : ℕ) (t : Table) → numbered state.tables n ≡ Some t
    → IsSomeAnd (numbered (after state event).tables n) (StaysDropped t)
unfolding acted
one-stays state (entry.Given txn table write) n t e = kept-changed StaysDropped dropped-same (owned txn.0) (λ x. dropped-same x) state.tables table.0 n t e
one-stays state (entry.Commit txn wrote) n t e = behind-stays (commits (numbered state.transactions txn.0)) state.tables n t e
one-stays state (entry.Create txn table) n t e =
    kept-more StaysDropped dropped-same state.tables (made_by table.0 (numbered state.transactions txn.0) ∷ []) n t e
one-stays state (entry.Drop txn table) n t e = kept-changed StaysDropped dropped-same dropped (λ x is. refl) state.tables table.0 n t e
one-stays state (entry.Forgot table write) n t e = kept-changed StaysDropped dropped-same (forgot write.0) (λ x. dropped-same x) state.tables table.0 n t e
one-stays state (entry.Boot run) n t e = stays (numbered state.tables n) t e
one-stays state (entry.Opened txn session number text) n t e = stays (numbered state.tables n) t e
one-stays state (entry.Start txn statement) n t e = stays (numbered state.tables n) t e
one-stays state (entry.Abort txn cause) n t e = stays (numbered state.tables n) t e
one-stays state (entry.Asked job table partition kind by) n t e = stays (numbered state.tables n) t e
one-stays state (entry.Picked job watermark) n t e = stays (numbered state.tables n) t e
one-stays state (entry.Published job low high mark) n t e = stays (numbered state.tables n) t e
one-stays state (entry.Empty job) n t e = stays (numbered state.tables n) t e
one-stays state (entry.Cleaned job) n t e = stays (numbered state.tables n) t e
one-stays state (entry.Failed job cause) n t e = stays (numbered state.tables n) t e
one-stays state (entry.Next txn statement number text) n t e = stays (numbered state.tables n) t e
one-stays state (entry.Did txn statement wrote) n t e = stays (numbered state.tables n) t e
one-stays state (entry.Alter txn table) n t e = stays (numbered state.tables n) t e

all-stays : (more : List Entry) (state : State) (n : ℕ) (t : Table) → numbered state.tables n ≡ Some t
    → IsSomeAnd (numbered (fold after state more).tables n) (StaysDropped t)
all-stays [] state n t e = stays (numbered state.tables n) t e
all-stays (event ∷ more) state n t e =
    stays-then t (numbered (after state event).tables n) (numbered (fold after (after state event) more).tables n) (one-stays state event n t e)
    (λ u at. all-stays more (after state event) n u at)

-- ---- covers

pub covers-later : (j k : Job) → JobLater j k → (name : DirName) → covers j name ≡ true → covers k name ≡ true
covers-later j k later name covered = by j.published refl
  where
    by : (o : Option (ℕ × ℕ × ℕ)) → j.published ≡ o → covers k name ≡ true
    by None e = absurd (true≢false (sym covered ∙ ap (λ o. covers_by j.kind o name) e))
    by (Some range) e = (λ i. covers_by (later.kind i) (later.published range e i) name) ∙ sym (ap (λ o. covers_by j.kind o name) e) ∙ covered

-- ---- over fronts

module _ (before now : List TrailItem) (front : IsFront before now) where
  pub state-behind : state_at now ≡ fold after (state_at before) (book_of front.more)
  state-behind = ap state_at front.is ∙ state-append before front.more

  pub job-lasts : (n : ℕ) (j : Job) → numbered (state_at before).jobs n ≡ Some j → (k : Job) × (numbered (state_at now).jobs n ≡ Some k) × JobLater j k
  job-lasts n j is =
      found (JobLater j) (numbered (state_at now).jobs n)
      (subst (λ (s : State). IsSomeAnd (numbered s.jobs n) (JobLater j)) (sym state-behind) (jobs-last (state_at before) (book_of front.more) n j is))

  pub known-lasts : (job : JobId) → IsKnown before job → IsKnown now job
  known-lasts job known = by (numbered (state_at before).jobs job.0) refl known
    where
      by : (o : Option Job) → numbered (state_at before).jobs job.0 ≡ o → IsSome o → IsKnown now job
      by None e some = absurd (true≢false (sym some))
      by (Some j) e some = ap (λ (o : Option Job). is_some o) (job-lasts job.0 j e).1

  pub all-known : (jobs : List JobId) → AreKnown before jobs → AreKnown now jobs
  all-known jobs all = all-lasts (IsKnown before) (IsKnown now) known-lasts jobs all

  pub covered-lasts : (job : JobId) (dir : DirAt) → IsCoveredFor before job dir → IsCoveredFor now job dir
  covered-lasts job dir is =
      let was = found (IsCoveredDir dir) (numbered (state_at before).jobs job.0) is in
      let later = job-lasts job.0 was.0 was.1 in
      has (IsCoveredDir dir) (numbered (state_at now).jobs job.0) later.0 later.1 (record {
        table_is = was.2.table_is ∙ sym later.2.table;
        partition_is = was.2.partition_is ∙ sym later.2.partition;
        name = was.2.name;
        named = was.2.named;
        text = was.2.text;
        covered = covers-later was.0 later.0 later.2 was.2.name was.2.covered;
      })

  pub all-covered : (job : JobId) (dirs : List DirAt) → AreCoveredDirs before job dirs → AreCoveredDirs now job dirs
  all-covered job dirs all = all-lasts (IsCoveredFor before job) (IsCoveredFor now job) (covered-lasts job) dirs all

  -- ---- lost ids

  aborted-lasts : (txn : ℕ) → is_aborted_one (numbered (state_at before).transactions txn) ≡ true → is_aborted_one (numbered (state_at now).transactions txn) ≡ true
  aborted-lasts txn aborted = by (numbered (state_at before).transactions txn) refl aborted
    where
      ended : (t : Transaction) → numbered (state_at before).transactions txn ≡ Some t → (e : Option Ending) → t.ending ≡ e → is_aborted_by e ≡ true
          → is_aborted_one (numbered (state_at now).transactions txn) ≡ true
      ended t at None is so = absurd (true≢false (sym so))
      ended t at (Some e) is so =
          let later = found (Later t) (numbered (state_at now).transactions txn) ((goes-on-front before now front).history.transactions txn t at) in
          ap is_aborted_one later.1 ∙ ap (λ (x : Transaction). is_aborted_by x.ending) (later.2.ending e is) ∙ ap is_aborted_by is ∙ so

      by : (o : Option Transaction) → numbered (state_at before).transactions txn ≡ o → is_aborted_one o ≡ true
          → is_aborted_one (numbered (state_at now).transactions txn) ≡ true
      by None at so = absurd (true≢false (sym so))
      by (Some t) at so = ended t at t.ending refl so

  slice-front : {A : Type 0} (xs ys : List A) (n : ℕ) (x : A) → slice_get xs n ≡ Some x → slice_get (xs ++ ys) n ≡ Some x
  slice-front [] ys n x at = cc
  slice-front (y ∷ xs) ys zero x at = at
  slice-front (y ∷ xs) ys (suc n) x at = slice-front xs ys n x at

  numbered-front : {A : Type 0} (xs ys : List A) (n : ℕ) (x : A) → numbered xs n ≡ Some x → numbered (xs ++ ys) n ≡ Some x
  numbered-front xs ys zero x at = cc
  numbered-front xs ys (suc n) x at = slice-front xs ys n x at

  pub lost-lasts : (id : LostId) → IsLost before id → IsLost now id
  lost-lasts id is =
      let was = found (IsLostId (state_at before) id.write.0) (numbered (state_at before).tables id.table.0) is in
      let later = found (TableLater was.0) (numbered (state_at now).tables id.table.0)
      ((goes-on-front before now front).history.tables id.table.0 was.0 was.1) in
      has (IsLostId (state_at now) id.write.0) (numbered (state_at now).tables id.table.0) later.0 later.1
      (by was.0 later.0 later.2 (numbered was.0.owners id.write.0) refl was.2)
    where
      by : (t u : Table) → TableLater t u → (o : Option ℕ) → numbered t.owners id.write.0 ≡ o → is_aborted_id (state_at before).transactions o ≡ true
          → is_aborted_id (state_at now).transactions (numbered u.owners id.write.0) ≡ true
      by t u later None at so = absurd (true≢false (sym so))
      by t u later (Some txn) at so =
          let there : numbered u.owners id.write.0 ≡ Some txn =
          ap (λ (owners : List ℕ). numbered owners id.write.0) later.owners.is ∙ numbered-front t.owners later.owners.more id.write.0 txn at in
          ap (is_aborted_id (state_at now).transactions) there ∙ aborted-lasts txn so

  pub all-lost : (ids : List LostId) → AreLost before ids → AreLost now ids
  all-lost ids all = all-lasts (IsLost before) (IsLost now) lost-lasts ids all

  -- ---- dropped tables

  pub dropped-lasts : (table : ℕ) → IsDropped before table → IsDropped now table
  dropped-lasts table is =
      let was = found (λ (t : Table). t.is_live ≡ false) (numbered (state_at before).tables table) is in
      let later = found (StaysDropped was.0) (numbered (state_at now).tables table)
      (subst (λ (s : State). IsSomeAnd (numbered s.tables table) (StaysDropped was.0)) (sym state-behind)
      (all-stays (book_of front.more) (state_at before) table was.0 was.1)) in
      has (λ (t : Table). t.is_live ≡ false) (numbered (state_at now).tables table) later.0 later.1 (later.2 was.2)

  pub sweepable-lasts : (dir : DirAt) → CanSweep (state_at before) dir → CanSweep (state_at now) dir
  sweepable-lasts dir (inl staged) = inl staged
  sweepable-lasts dir (inr gone) = inr (dropped-lasts dir.table.0 gone)

  pub all-sweepable : (dirs : List DirAt) → AreSweepable before dirs → AreSweepable now dirs
  all-sweepable dirs all = all-lasts (CanSweep (state_at before)) (CanSweep (state_at now)) sweepable-lasts dirs all

  pub tables-last : (live : List Bool) → AreTables before live → AreTables now live
  tables-last live were = record { then_ = were.then_; front = front-more were.then_ before now were.front front; is = were.is }

-- a table that wasn't live then is dropped now
live-at : (tables : List Table) (i : ℕ) → i < length (map (λ (t : Table). t.is_live) tables)
    → get_or (map (λ (t : Table). t.is_live) tables) i true ≡ false → IsSomeAnd (slice_get tables i) (λ (t : Table). t.is_live ≡ false)
live-at [] i low dead = absurd (omega (arith, low))
live-at (t ∷ tables) zero low dead = dead
live-at (t ∷ tables) (suc i) low dead = live-at tables i (omega (arith, low)) dead

get-any : {A : Type 0} (xs : List A) (i : ℕ) (d e : A) → i < length xs → get_or xs i d ≡ get_or xs i e
get-any [] i d e low = absurd (omega (arith, low))
get-any (x ∷ xs) zero d e low = refl
get-any (x ∷ xs) (suc i) d e low = get-any xs i d e (omega (arith, low))

pub dead-dropped : (trail : List TrailItem) (live : List Bool) (i : ℕ) (d : Bool) → AreTables trail live → i < length live → get_or live i d ≡ false
    → IsDropped trail (i + 1)
dead-dropped trail live i d were low dead =
    dropped-lasts were.then_ trail were.front (i + 1)
    (subst (λ n. IsSomeAnd (numbered (state_at were.then_).tables n) (λ (t : Table). t.is_live ≡ false)) (let next : suc i ≡ i + 1 = omega arith in next)
    (live-at (state_at were.then_).tables i (subst (λ (xs : List Bool). i < length xs) were.is low)
    (subst (λ (xs : List Bool). get_or xs i true ≡ false) were.is (get-any live i true d low ∙ dead))))
