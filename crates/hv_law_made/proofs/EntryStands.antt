-- One law for every entry: what fits keeps all standing, where the files are as it asks.
use Rattle.std.proofs.Common.{refl, ◌≡◌, ◌⊎◌, inl, inr, ℕ, zero, suc, ◌+◌, ◌<◌, ◌≤◌, ◌==◌, Bool, true, false, cond, Option, Some, None, List, [], ◌∷◌, map, option_map, length, sym, ap, ◌∙◌, subst, arith, eqb-true, ltb-true, ltb-false, true≢false}
use Rattle.std.specs.Prelude.{if◌then◌else◌, nat_lt, is_none}
use Rattle.std.specs.FinMap as finmap
use Rattle.std.specs.List.{list_any, slice_get}
use Rattle.std.proofs.lemmas.Bool.{and_from, false_from_ne_true}
use Rattle.std.proofs.lemmas.List.{append-nil}
use Rattle.hv_base.specs.declared.ids.Limits.{Limits}
use Rattle.hv_base.specs.declared.ids.Touch.{Touch}
use Rattle.hv_base.specs.declared.ids.TxnId.{TxnId}
use Rattle.hv_shelf.specs.declared.place.Place.{Place}
use Rattle.hv_shelf.specs.Disk.{Tree}
use Rattle.hv_dirs.specs.Names.{write_end}
use Rattle.hv_stands.specs.hv_history.specs.declared.entry.Entry.{Entry}
use Rattle.hv_stands.specs.hv_history.specs.declared.entry.Entry.TheVariants as entry
use Rattle.hv_stands.specs.hv_history.specs.declared.state.Ending.{Ending}
use Rattle.hv_stands.specs.hv_history.specs.declared.state.Ending.TheVariants.{Committed, Aborted, Made, Dropped}
use Rattle.hv_stands.specs.hv_history.specs.declared.state.Table.{Table}
use Rattle.hv_stands.specs.hv_history.specs.declared.state.Transaction.{Transaction}
use Rattle.hv_stands.specs.hv_history.specs.declared.state.Written.{Written}
use Rattle.hv_stands.specs.hv_history.specs.State.{State, Job, numbered, changed, changed_at, commits, tables_behind, written_to, acted, after}
use Rattle.hv_stands.specs.hv_history.specs.Legal.{Of, CommitFits, CreateFits, DropFits, Fits}
use Rattle.hv_stands.specs.hv_history.specs.Jobs.{is_open_one, is_job_of, is_past, ended_front, ids_of, watermark}
use Rattle.hv_stands.specs.hv_history.specs.JobsFit.{OfJob, PickedFits, PublishedFits, EmptyFits, FailedFits, CleanedFits, ForgotFits}
use Rattle.hv_stands.specs.Files.{IsLoose, IsOwn, IsUndone, ending_of}
use Rattle.hv_stands.specs.Sound.{info_in, given_of, owners_of, given_among, owner_among, IsSingle}
use Rattle.hv_stands.proofs.Numbers.{found, one_value, same_one, either, numbered-changed, changed-here, numbered-map}
use Rattle.hv_stands.proofs.Soundness.{all-numbered}
use Rattle.hv_stands.proofs.Keeping.{still-open, IsWriteOf, IsOneWrite, one-write}
use Rattle.hv_law_jobs.specs.Sound.{HasSoundRange, IsSoundJob}
use Rattle.hv_law_jobs.proofs.OrderLemmas.{numbered-all}
use Rattle.hv_jobs.specs.Covers.{covers, frees}
use Rattle.hv_law_made.specs.Made.{is_made, names_in, jobs_at, made_recs, is_spare}
use Rattle.hv_law_made.specs.Named.{HasNames, AllHaveNames}
use Rattle.hv_law_made.specs.Standing.{Standing}
use Rattle.hv_law_made.specs.Laws.{MayCome, MayGo, MayTurn, IsOwnOf, IsCoveredBy, AreButFor, stepped_job, KeepsNames, IsToForget, IsUnended, IsBelow, IsNewWrite, GetsWrites, IsCommitting, IsMarked}
use Rattle.hv_law_made.specs.Entries.{IsAbortedEnd, IsOfAborted, ForgetsAborted, IsSoundBook, StandingGoesOn}
use Rattle.hv_law_made.proofs.UnmadeLemmas.{puts-unmade}
use Rattle.hv_law_made.proofs.FrameLemmas.{changes-stand}
use Rattle.hv_law_made.proofs.GrowLemmas.{spare-of-name}
use Rattle.hv_law_made.proofs.StepLemmas.{numbered-in}
use Rattle.hv_law_made.proofs.StepStands.{job-steps-stand, asked-stands, cleaned-stands}
use Rattle.hv_law_made.proofs.PublishStands.{numbered-at, published-stands}
use Rattle.hv_law_made.proofs.TableStands.{given-stands, forgotten-stands}
use Rattle.hv_law_made.proofs.EndStands.{dropped-stands, created-stands}
use Rattle.hv_law_made.proofs.CommitStands.{committed-stands}
use Rattle.hv_law_made.proofs.OpenStands.{opened-stands, quiet-entries-stand}
use Rattle.hv_law_made.proofs.NewNames.{to-publish}
use Rattle.hv_law_made.proofs.NameBounds.{all-named}
use Rattle.hv_law_made.proofs.BookLemmas.{aborted-id, books-go-on}
use Rattle.hv_law_visible.specs.Members.{IsIn}
use Rattle.hv_law_visible.proofs.MemberLemmas.{in-filter, from-filter, any-in, in-any}
use Rattle.hv_law_visible.proofs.TakenLemmas.{all-in}

-- ---- what came or went just before the entry

pub moved : (state : State) (Asked : Place → Type 0) (before files : Tree) → AllHaveNames state → AreButFor Asked before files
    → ((place : Place) → Asked place → MayTurn state place (finmap.get files place)) → Standing state before → Standing state files
moved state Asked before files names but may standing = changes-stand state before files names (λ place. each place (but place)) standing
  where
    each : (place : Place) → (finmap.get files place ≡ finmap.get before place) ⊎ Asked place
        → (finmap.get files place ≡ finmap.get before place) ⊎ MayTurn state place (finmap.get files place)
    each place (inl same) = inl same
    each place (inr asked) = inr (may place asked)

turns-by : (state : State) (place : Place) → MayCome state place → made_recs state place ≡ None → (o : Option (List ℕ)) → MayTurn state place o
turns-by state place come unmade None = inl unmade
turns-by state place come unmade (Some bytes) = come

-- where writes and jobs put, whatever stands there
pub turns : (state : State) (place : Place) → AllHaveNames state → MayCome state place → (o : Option (List ℕ)) → MayTurn state place o
turns state place names come o = turns-by state place come (puts-unmade state place names come).recs o

own-loose : (state : State) (txn : ℕ) (place : Place) → numbered (map ending_of state.transactions) txn ≡ Some None → IsOwn state.tables txn place → IsLoose state place
own-loose state txn place unended own = record { txn = txn; own = own; undone = subst IsUndone (sym unended) tt }

-- in the own directories of a transaction that is open
own-moved : (state : State) (txn : TxnId) (before files : Tree) → AllHaveNames state → IsUnended state txn
    → AreButFor (λ (place : Place). IsOwn state.tables txn.0 place) before files → Standing state before → Standing state files
own-moved state txn before files names unended but standing =
    moved state (λ (place : Place). IsOwn state.tables txn.0 place) before files names but
    (λ place own. turns state place names (inl (own-loose state txn.0 place unended own)) (finmap.get files place)) standing

-- and nowhere
none-moved : (state : State) (before files : Tree) → AllHaveNames state → AreButFor (λ (place : Place). ⊥) before files → Standing state before → Standing state files
none-moved state before files names but standing = moved state (λ (place : Place). ⊥) before files names but (λ place none. absurd none) standing

pub gone-turns : (state : State) (place : Place) (o : Option (List ℕ)) → o ≡ None → MayGo state place → MayTurn state place o
gone-turns state place None e may = may
gone-turns state place (Some bytes) e may = cc

-- ---- a transaction that is open

pub unended-as : (state : State) (txn : TxnId) (t : Transaction) → numbered state.transactions txn.0 ≡ Some t → t.ending ≡ None → IsUnended state txn
unended-as state txn t at none = numbered-map ending_of state.transactions txn.0 ∙ ap (option_map ending_of) at ∙ ap (λ o. Some o) none

-- a number of an open transaction is above all ids up to the watermark
front-ended : (ts : List Transaction) (owners : List ℕ) (k txn : ℕ) → slice_get owners k ≡ Some txn → suc k ≤ ended_front ts owners → is_open_one (numbered ts txn) ≡ false
front-ended ts [] k txn at below = cc
front-ended ts (owner ∷ owners) zero txn at below =
    subst (λ n. is_open_one (numbered ts n) ≡ false) (one_value owner txn at) (by (is_open_one (numbered ts owner)) below)
  where
    by : (b : Bool) → 1 ≤ (if b then 0 else ended_front ts owners + 1) → b ≡ false
    by true below = absurd (omega (arith, below))
    by false below = refl
front-ended ts (owner ∷ owners) (suc k) txn at below = front-ended ts owners k txn at (by (is_open_one (numbered ts owner)) below)
  where
    by : (b : Bool) → suc (suc k) ≤ (if b then 0 else ended_front ts owners + 1) → suc k ≤ ended_front ts owners
    by true below = absurd (omega (arith, below))
    by false below = omega (arith, below)

open-by-ending : (o : Option Transaction) → option_map ending_of o ≡ Some None → is_open_one o ≡ true
open-by-ending None e = cc
open-by-ending (Some t) e = let none : t.ending ≡ None = one_value t.ending None e in ap is_none none

open-one : (state : State) (txn : TxnId) → IsUnended state txn → is_open_one (numbered state.transactions txn.0) ≡ true
open-one state txn unended = open-by-ending (numbered state.transactions txn.0) (sym (numbered-map ending_of state.transactions txn.0) ∙ unended)

module _ (state : State) (txn : TxnId) (sound : IsSoundBook state) (unended : IsUnended state txn) where
  -- its write ids are above all that jobs have published
  above-front : (owners : List ℕ) (write : ℕ) → numbered owners write ≡ Some txn.0 → (high : ℕ) → high ≤ ended_front state.transactions owners → high < write
  above-front owners zero at high ended = cc
  above-front owners (suc k) at high ended = by (either (nat_lt high (suc k)))
    where
      by : (nat_lt high (suc k) ≡ true) ⊎ (nat_lt high (suc k) ≡ false) → high < suc k
      by (inl e) = ltb-true high (suc k) e
      by (inr e) =
          let most = ltb-false high (suc k) e in
          let within : suc k ≤ ended_front state.transactions owners = omega (arith, most, ended) in
          absurd (true≢false (sym (open-one state txn unended) ∙ front-ended state.transactions owners k txn.0 at within))

  below-range : (number : ℕ) (table : Table) (write : ℕ) → numbered state.tables number ≡ Some table → numbered table.owners write ≡ Some txn.0
      → (job : Job) → job.table ≡ number → (o : Option (ℕ × ℕ × ℕ)) → HasSoundRange state job o → IsBelow o write
  below-range number table write at owner job of None range = tt
  below-range number table write at owner job of (Some r) range =
      above-front table.owners write owner r.1
      (subst (λ (o : Option Table). r.1 ≤ ended_front state.transactions (ids_of o)) at (subst (λ n. r.1 ≤ watermark state n) of range.ended))

  pub above-published : (number : ℕ) (before : Table) (write : ℕ) → numbered state.tables number ≡ Some before → numbered before.owners write ≡ Some txn.0
      → (n : ℕ) (job : Job) → numbered state.jobs n ≡ Some job → job.table ≡ number → IsBelow job.published write
  above-published number before write at owner n job is of =
      below-range number before write at owner job of job.published (numbered-all (IsSoundJob state) state.jobs n job sound.jobs.each is).range

  -- none of them was forgotten
  not-aborted : (owners : List ℕ) (write : ℕ) → numbered owners write ≡ Some txn.0 → IsOfAborted (map ending_of state.transactions) owners write → ⊥
  not-aborted owners write owner of =
      let same : of.0 ≡ txn.0 = same_one (numbered owners write) of.0 txn.0 of.1 owner in
      subst IsAbortedEnd unended (subst (λ n. IsAbortedEnd (numbered (map ending_of state.transactions) n)) same of.2)

  pub kept-id : (number : ℕ) (table : Table) (write : ℕ) → numbered state.tables number ≡ Some table → numbered table.owners write ≡ Some txn.0
      → list_any (λ other. other == write) table.forgotten ≡ false
  kept-id number table write at owner =
      false_from_ne_true (list_any (λ other. other == write) table.forgotten)
      (λ e.
      let there = in-any (λ (other : ℕ). other == write) table.forgotten e in
      let each = all-numbered (ForgetsAborted (map ending_of state.transactions)) state.tables number table at sound.forgotten in
      let of = all-in (IsOfAborted (map ending_of state.transactions) table.owners) table.forgotten there.0 each there.1 in
      not-aborted table.owners write owner (subst (IsOfAborted (map ending_of state.transactions) table.owners) (eqb-true there.0 write there.2) of))

-- ---- what a commit writes

changed-none_at : {A : Type 0} (f : A → A) (xs : List A) (n k : ℕ) → slice_get xs k ≡ None → slice_get (changed_at f xs n) k ≡ None
changed-none_at f [] n k e = e
changed-none_at f (x ∷ xs) n zero e = cc
changed-none_at f (x ∷ xs) zero (suc k) e = e
changed-none_at f (x ∷ xs) (suc n) (suc k) e = changed-none_at f xs n k e

changed-none : {A : Type 0} (f : A → A) (xs : List A) (n k : ℕ) → numbered xs k ≡ None → numbered (changed f xs n) k ≡ None
changed-none f xs zero k e = e
changed-none f xs (suc n) zero e = e
changed-none f xs (suc n) (suc k) e = changed-none_at f xs n k e

mapped-some : {A B : Type 0} (f : A → B) (o : Option A) (y : B) → option_map f o ≡ Some y → (x : A) × (o ≡ Some x)
mapped-some f None y e = cc
mapped-some f (Some x) y e = (x, refl)

module _ (state now : State) (txn : TxnId) (t : Transaction) (sound : IsSoundBook state) (unended : IsUnended state txn) (at : numbered state.transactions txn.0 ≡ Some t) where
  abbrev Gets : ℕ → Table → Type 0
  Gets number before = (table : Table) × (numbered now.tables number ≡ Some table) × GetsWrites txn.0 before table

  gets-none : (number : ℕ) (before : Table) → numbered now.tables number ≡ Some before → Gets number before
  gets-none number before here = (
    before,
    here,
    record {
      info = refl;
      is_live = refl;
      owners = refl;
      forgotten = refl;
      more = [];
      writes = sym (append-nil before.writes);
      each = λ written none. absurd none;
    },
  )

  -- the id under which it writes is its own
  its-owner : (x : ℕ × Written) → IsWriteOf (map info_in state.tables) t x → (before : Table) → numbered state.tables x.0 ≡ Some before → numbered before.owners x.1.write ≡ Some txn.0
  its-owner x is before here =
      sym (ap (λ o. owner_among o x.1.write) (numbered-map owners_of state.tables x.0 ∙ ap (option_map owners_of) here))
      ∙ sound.base.given.has_owner txn.0 x.0 x.1.write (ap (λ o. given_among o x.0) (numbered-map given_of state.transactions txn.0 ∙ ap (option_map given_of) at) ∙ is.given)

  gets-one : (x : ℕ × Written) → IsWriteOf (map info_in state.tables) t x → now.tables ≡ changed (written_to x.1) state.tables x.0
      → (before : Table) → numbered state.tables x.0 ≡ Some before → Gets x.0 before
  gets-one x is tables before here = (
    written_to x.1 before,
    ap (λ ts. numbered ts x.0) tables ∙ changed-here (written_to x.1) state.tables x.0 before here,
    record {
      info = refl;
      is_live = refl;
      owners = refl;
      forgotten = refl;
      more = x.1 ∷ [];
      writes = refl;
      each = λ written among. new written among;
    },
  )
    where
      new : (written : Written) → IsIn written (x.1 ∷ []) → IsNewWrite txn.0 before written
      new written (inl e) =
          let owner : numbered before.owners written.write ≡ Some txn.0 =
          subst (λ (w : Written). numbered before.owners w.write ≡ Some txn.0) e (its-owner x is before here) in
          record { owner = owner; kept = kept-id state txn sound unended x.0 before written.write here owner }
      new written (inr none) = absurd none

  gets-by : (x : ℕ × Written) → IsWriteOf (map info_in state.tables) t x → now.tables ≡ changed (written_to x.1) state.tables x.0
      → (other : Table) → numbered state.tables x.0 ≡ Some other → (number : ℕ) (before : Table) → numbered state.tables number ≡ Some before
      → ((number == x.0) ≡ true) ⊎ ((number == x.0) ≡ false) → Gets number before
  gets-by x is tables other there number before here (inl e) =
      let same : number ≡ x.0 = eqb-true number x.0 e in
      subst (λ n. Gets n before) (sym same) (gets-one x is tables before (ap (numbered state.tables) (sym same) ∙ here))
  gets-by x is tables other there number before here (inr e) =
      gets-none number before
      (ap (λ ts. numbered ts number) tables ∙ numbered-changed (written_to x.1) state.tables x.0 number other there
      ∙ ap (λ b. cond b (Some (written_to x.1 other)) (numbered state.tables number)) e ∙ here)

  gets-of : (x : ℕ × Written) → IsWriteOf (map info_in state.tables) t x → now.tables ≡ changed (written_to x.1) state.tables x.0
      → (number : ℕ) (before : Table) → numbered state.tables number ≡ Some before → Gets number before
  gets-of x is tables number before here =
      let there = mapped-some info_in (numbered state.tables x.0) is.info (sym (numbered-map info_in state.tables x.0) ∙ is.here) in
      gets-by x is tables there.0 there.1 number before here (either (number == x.0))

  pub gets-writes : IsOneWrite (map info_in state.tables) t (commits (Some t)) → now.tables ≡ tables_behind (commits (Some t)) state.tables
      → (number : ℕ) (before : Table) → numbered state.tables number ≡ Some before → Gets number before
  gets-writes (inl none) tables number before here =
      gets-none number before (ap (λ ts. numbered ts number) (tables ∙ ap (λ ws. tables_behind ws state.tables) none) ∙ here)
  gets-writes (inr one) tables number before here =
      gets-of one.0 one.2 (tables ∙ ap (λ ws. tables_behind ws state.tables) one.1) number before here

  pub gets-nowhere : IsOneWrite (map info_in state.tables) t (commits (Some t)) → now.tables ≡ tables_behind (commits (Some t)) state.tables
      → (number : ℕ) → numbered state.tables number ≡ None → numbered now.tables number ≡ None
  gets-nowhere (inl none) tables number e = ap (λ ts. numbered ts number) (tables ∙ ap (λ ws. tables_behind ws state.tables) none) ∙ e
  gets-nowhere (inr one) tables number e =
      ap (λ ts. numbered ts number) (tables ∙ ap (λ ws. tables_behind ws state.tables) one.1) ∙ changed-none (written_to one.0.1) state.tables one.0.0 number e

commit-tables : (state : State) (txn : TxnId) (wrote : List Touch) (t : Transaction) → numbered state.transactions txn.0 ≡ Some t
    → (after state (entry.Commit txn wrote)).tables ≡ tables_behind (commits (Some t)) state.tables
unfolding acted
commit-tables state txn wrote t at = ap (λ (o : Option Transaction). tables_behind (commits o) state.tables) at

pub is-committing : (state : State) (txn : TxnId) (wrote : List Touch) → IsSoundBook state → Of state txn.0 (CommitFits state wrote) → IsCommitting state txn wrote
is-committing state txn wrote sound fits =
    let here = found (CommitFits state wrote) (numbered state.transactions txn.0) fits in
    let t : Transaction = here.0 in
    let now : State = after state (entry.Commit txn wrote) in
    let unended : IsUnended state txn = unended-as state txn t here.1 (still-open t here.2.running.unended) in
    let single = all-numbered (IsSingle (map info_in state.tables)) state.transactions txn.0 t here.1 sound.base.single in
    let one = one-write (map info_in state.tables) t single in
    let tables = commit-tables state txn wrote t here.1 in
    record {
      unended = unended;
      tables = gets-writes state now txn t sound unended here.1 one tables;
      none = gets-nowhere state now txn t sound unended here.1 one tables;
      above = above-published state txn sound unended;
    }

-- ---- an id that may be forgotten

undone-end : (o : Option (Option Ending)) → IsAbortedEnd o → IsUndone o
undone-end None is = absurd is
undone-end (Some None) is = absurd is
undone-end (Some (Some (Committed place wrote))) is = absurd is
undone-end (Some (Some (Aborted place cause))) is = tt
undone-end (Some (Some (Made place table))) is = absurd is
undone-end (Some (Some (Dropped place table))) is = absurd is

pub is-to-forget : (limits : Limits) (state : State) (number write : ℕ) (table : Table) → numbered state.tables number ≡ Some table → ForgotFits limits state write table
    → IsToForget state number write table
is-to-forget limits state number write table at fits =
    let of = aborted-id state.transactions (numbered table.owners write) fits.aborted in
    record {
      is = at;
      txn = of.0;
      owner = of.1;
      undone = undone-end (numbered (map ending_of state.transactions) of.0) of.2;
      kept = fits.kept;
    }

forget-loose : (state : State) (number write : ℕ) (table : Table) → IsToForget state number write table → (place : Place) → IsOwnOf number write place → IsLoose state place
forget-loose state number write table to place at = record {
  txn = to.txn;
  own = record {
    table = table;
    is = ap (numbered state.tables) at.table_is ∙ to.is;
    deletes = at.deletes;
    write = write;
    statement = at.statement;
    dir = at.dir;
    owner = to.owner;
    kept = to.kept;
  };
  undone = to.undone;
}

-- ---- what a job that is past covers is spare

covered-is-spare : (state : State) (number : ℕ) (which : Job) → AllHaveNames state → numbered state.jobs number ≡ Some which → is_past state which ≡ true
    → (place : Place) → IsCoveredBy state number place → is_spare state place ≡ true
covered-is-spare state number which names is past place at =
    let writes = at.table.writes in
    let kept = from-filter (is_made writes place.partition) at.name (names_in writes (jobs_at state place)) at.among in
    let same : at.job ≡ which = same_one (numbered state.jobs number) at.job which at.is is in
    spare-of-name state place at.table at.table_is (all-numbered (HasNames state) state.tables place.table.0 at.table at.table_is names.tables) at.name
    (kept.0, at.dir) kept.1
    (any-in (frees state at.name) at.job (jobs_at state place)
    (in-filter (is_job_of place.table.0 place.partition) at.job state.jobs (numbered-in state.jobs number at.job at.is) at.here)
    (and_from (is_past state at.job) (covers at.job at.name) (ap (is_past state) same ∙ past) at.covered))

-- ---- marks are of transactions that were opened

marked-by : (state : State) (job : Job) (o : Option (ℕ × ℕ × ℕ)) → HasSoundRange state job o → IsMarked (length state.transactions + 1) o
marked-by state job None range = tt
marked-by state job (Some r) range = range.opened.1

pub all-marked : (state : State) → IsSoundBook state → (job : Job) → IsIn job state.jobs → IsMarked (length state.transactions + 1) job.published
all-marked state sound job among =
    let at = numbered-at state.jobs job among in
    marked-by state job job.published (numbered-all (IsSoundJob state) state.jobs at.0 job sound.jobs.each at.1).range

-- ---- each entry

module _ (limits : Limits) (state : State) (event : Entry) (fits : Fits limits state event) (few : state.entries + 1 < write_end) (sound : IsSoundBook state) where
  pub named : AllHaveNames state
  named = all-named state (omega (arith, few)) sound

  pub names : KeepsNames state event
  names = record { before = named; behind = all-named (after state event) few (books-go-on limits state event fits sound) }

  stepped : (number : ℕ) (files : Tree) (P : Job → Type 0) → OfJob state number P → stepped_job event ≡ Some number
      → Standing state files → Standing (after state event) files
  stepped number files P of is standing =
      let here = found P (numbered state.jobs number) of in
      job-steps-stand state event number here.0 files is here.1 names standing

pub standing-goes-on : StandingGoesOn
standing-goes-on limits state (entry.Boot run) before files fits few sound but filed standing =
    quiet-entries-stand state (entry.Boot run) files refl (none-moved state before files (named limits state (entry.Boot run) fits few sound) but standing)
standing-goes-on limits state (entry.Opened txn session number text) before files fits few sound but filed standing =
    opened-stands state txn session number text files (all-marked state sound)
    (none-moved state before files (named limits state (entry.Opened txn session number text) fits few sound) but standing)
standing-goes-on limits state (entry.Start txn statement) before files fits few sound but filed standing =
    quiet-entries-stand state (entry.Start txn statement) files refl (none-moved state before files (named limits state (entry.Start txn statement) fits few sound) but standing)
standing-goes-on limits state (entry.Given txn table write) before files fits few sound but filed standing =
    let its = named limits state (entry.Given txn table write) fits few sound in
    given-stands state txn table write files its (none-moved state before files its but standing)
standing-goes-on limits state (entry.Commit txn wrote) before files fits few sound but filed standing =
    let its = names limits state (entry.Commit txn wrote) fits few sound in
    let to = is-committing state txn wrote sound fits in
    committed-stands state txn wrote files to its filed (own-moved state txn before files its.before to.unended but standing)
standing-goes-on limits state (entry.Abort txn cause) before files fits few sound but filed standing =
    quiet-entries-stand state (entry.Abort txn cause) files refl (none-moved state before files (named limits state (entry.Abort txn cause) fits few sound) but standing)
standing-goes-on limits state (entry.Create txn table) before files fits few sound but filed standing =
    let its = named limits state (entry.Create txn table) fits few sound in
    let here = found (CreateFits state table.0) (numbered state.transactions txn.0) fits in
    let unended = unended-as state txn here.0 here.1 (still-open here.0 here.2.running.unended) in
    created-stands state txn table files unended its filed (own-moved state txn before files its unended but standing)
standing-goes-on limits state (entry.Drop txn table) before files fits few sound but filed standing =
    let its = named limits state (entry.Drop txn table) fits few sound in
    let here = found (DropFits state table.0) (numbered state.transactions txn.0) fits in
    let unended = unended-as state txn here.0 here.1 (still-open here.0 here.2.running.unended) in
    dropped-stands state txn table files unended its filed (own-moved state txn before files its unended but standing)
standing-goes-on limits state (entry.Asked job table partition kind by) before files fits few sound but filed standing =
    let its = names limits state (entry.Asked job table partition kind by) fits few sound in
    asked-stands state job table partition kind by files its (none-moved state before files its.before but standing)
standing-goes-on limits state (entry.Picked job mark) before files fits few sound but filed standing =
    stepped limits state (entry.Picked job mark) fits few sound job.0 files (PickedFits limits state job.0 mark.0) fits refl
    (none-moved state before files (named limits state (entry.Picked job mark) fits few sound) but standing)
standing-goes-on limits state (entry.Published job low high mark) before files fits few sound but filed standing =
    let its = names limits state (entry.Published job low high mark) fits few sound in
    let here = found (PublishedFits state low.0 high.0 mark.0) (numbered state.jobs job.0) fits in
    published-stands state job low high mark here.0 before files (to-publish state job.0 low.0 high.0 mark.0 here.0 sound.jobs here.1 here.2) its but filed standing
standing-goes-on limits state (entry.Empty job) before files fits few sound but filed standing =
    stepped limits state (entry.Empty job) fits few sound job.0 files (EmptyFits state) fits refl
    (none-moved state before files (named limits state (entry.Empty job) fits few sound) but standing)
standing-goes-on limits state (entry.Cleaned job) before files fits few sound but filed standing =
    let its = names limits state (entry.Cleaned job) fits few sound in
    let here = found (CleanedFits limits state) (numbered state.jobs job.0) fits in
    cleaned-stands state job here.0 files here.1 here.2.past its filed
    (moved state (λ (place : Place). IsCoveredBy state job.0 place) before files its.before but
    (λ place at. gone-turns state place (finmap.get files place) (filed.at place at) (inr (inl (covered-is-spare state job.0 here.0 its.before here.1 here.2.past place at)))) standing)
standing-goes-on limits state (entry.Failed job cause) before files fits few sound but filed standing =
    stepped limits state (entry.Failed job cause) fits few sound job.0 files (FailedFits state cause) fits refl
    (none-moved state before files (named limits state (entry.Failed job cause) fits few sound) but standing)
standing-goes-on limits state (entry.Forgot table write) before files fits few sound but filed standing =
    let its = named limits state (entry.Forgot table write) fits few sound in
    let here = found (ForgotFits limits state write.0) (numbered state.tables table.0) fits in
    let to = is-to-forget limits state table.0 write.0 here.0 here.1 here.2 in
    forgotten-stands state table write here.0 files to its filed
    (moved state (λ (place : Place). IsOwnOf table.0 write.0 place) before files its but
    (λ place at. turns state place its (inl (forget-loose state table.0 write.0 here.0 to place at)) (finmap.get files place)) standing)
standing-goes-on limits state (entry.Next txn statement number text) before files fits few sound but filed standing = absurd fits
standing-goes-on limits state (entry.Did txn statement wrote) before files fits few sound but filed standing = absurd fits
standing-goes-on limits state (entry.Alter txn table) before files fits few sound but filed standing = absurd fits
