-- Each entry that fits keeps locks apart, and what the names mean under them.
use Rattle.std.proofs.Common.{◌≡◌, ℕ, zero, suc, ◌⊎◌, inl, inr, ◌&&◌, Bool, true, false, is_some, Option, Some, None, List, [], ◌∷◌, ◌++◌, length, ◌+◌, fold, refl, sym, ap, ◌∙◌, subst}
use Rattle.std.specs.Prelude.{IsTrue, IsFalse, IsSomeAnd, slice_get}
use Rattle.std.specs.List.{list_any, AllByRecursion}
use Rattle.std.specs.Str.{bytes_eq}
use Rattle.hv_base.specs.declared.ids.Limits.{Limits}
use Rattle.hv_base.specs.declared.ids.TxnId.{TxnId}
use Rattle.hv_locks.specs.declared.table.Lock.{Lock}
use Rattle.hv_logic.specs.Names.{exclusive}
use Rattle.hv_history.specs.declared.entry.Entry.{Entry}
use Rattle.hv_history.specs.declared.entry.Entry.TheVariants as entry
use Rattle.hv_history.specs.declared.state.Table.{Table}
use Rattle.hv_history.specs.declared.state.Snapshot.{Snapshot}
use Rattle.hv_history.specs.declared.state.Ending.{Ending}
use Rattle.hv_history.specs.declared.state.Transaction.{Transaction}
use Rattle.hv_history.specs.declared.state.Ending.TheVariants.{Committed, Aborted, Made, Dropped}
use Rattle.hv_history.specs.State.{State, numbered, changed, owned, dropped, commits, made_by, ended, did, committed, given_id, opened, opening_tree, acted, after, nothing_yet, state_of, forgot}
use Rattle.hv_history.specs.Legal.{is_open, is_started, IsRunning, StartFits, CreateFits, DropFits, Fits, AllFit, locks_of, locks_conflict, holds_against, is_named, is_named_there, is_create, made_name, is_drop, dropped_name}
use Rattle.hv_stands.proofs.Numbers.{one_value, found, numbered-or-last}
use Rattle.hv_law_locks.specs.Locked.{IsApart, AreApart, StaysNamed, StaysLocked, KeepsNames, LocksHold}
use Rattle.hv_law_locks.specs.Laws.{LocksAreApart, LockedNamesStay, GivenTablesLive, CreatedNamesAreFree, DroppedTablesAreNamed}
use Rattle.hv_law_locks.proofs.Texts.{first-false, apart-by, apart-turned, made-lock, dropped-lock, shape-name}
use Rattle.hv_law_locks.proofs.Names.{named-same, named-then, named-changed, named-written, named-more, named-dropped, none-there, nowhere, live-there}
use Rattle.hv_law_locks.proofs.Before.{none-numbered, none-at, WasOpen, was-same, came-open, came-ended, IsStartedHere, came-started}

-- ---- names under locks

all-names : (before now : List Table) → ((name : List ℕ) → StaysNamed before now name) → (locks : List Lock) → AllByRecursion (StaysLocked before now) locks
all-names before now h [] = tt
all-names before now h (lock ∷ locks) = (h lock.name, all-names before now h locks)

all-then : (a b c : List Table) (locks : List Lock) → AllByRecursion (StaysLocked a b) locks → AllByRecursion (StaysLocked b c) locks
    → AllByRecursion (StaysLocked a c) locks
all-then a b c [] h k = tt
all-then a b c (lock ∷ locks) h k = (named-then a b c lock.name h.0 k.0, all-then a b c locks h.1 k.1)

-- whoever is apart from a name that is locked alone has other names
other-names : (own : List ℕ) (before now : List Table) → ((name : List ℕ) → bytes_eq own name ≡ false → StaysNamed before now name)
    → (locks : List Lock) → IsApart locks (exclusive own) → AllByRecursion (StaysLocked before now) locks
other-names own before now h [] apart = tt
other-names own before now h (lock ∷ locks) apart =
    (h lock.name (first-false (bytes_eq own lock.name) apart.0), other-names own before now h locks apart.1)

-- ---- an entry that starts nothing

ran : (xs : List Transaction) (n : ℕ) (now : Transaction) (was : WasOpen xs n now) → IsRunning now → IsRunning was.before
ran xs n now was running = record { unended = was.unended; started = sym (ap is_some was.snapshot) ∙ running.started }

runs : (t : Transaction) (s : Snapshot) → IsTrue (is_open t) → t.snapshot ≡ Some s → IsRunning t
runs t s unended snapshot = record { unended = unended; started = ap is_some snapshot }

module _ (state now : State) (hold : LocksHold state)
    (was : (n : ℕ) (t : Transaction) → numbered now.transactions n ≡ Some t → IsRunning t → WasOpen state.transactions n t)
    (step : (n : ℕ) (t : Transaction) → numbered now.transactions n ≡ Some t → IsRunning t → AllByRecursion (StaysLocked state.tables now.tables) (locks_of t)) where
  apart-still : (m n : ℕ) (a b : Transaction) → (m ≡ n → ⊥) → IsRunning a → IsRunning b → WasOpen state.transactions m a → WasOpen state.transactions n b
      → AreApart (locks_of a) (locks_of b)
  apart-still m n a b other runs_a runs_b x y =
      subst (λ locks. AreApart locks (locks_of b)) (sym x.locks)
      (subst (λ locks. AreApart (locks_of x.before) locks) (sym y.locks)
      (hold.apart m n x.before y.before other x.here y.here (ran state.transactions m a x runs_a) (ran state.transactions n b y runs_b)))

  names-still : (n : ℕ) (t : Transaction) (s : Snapshot) → numbered now.transactions n ≡ Some t → IsTrue (is_open t) → t.snapshot ≡ Some s
      → WasOpen state.transactions n t → AllByRecursion (StaysLocked s.tables now.tables) (locks_of t)
  names-still n t s here unended snapshot x =
      all-then s.tables state.tables now.tables (locks_of t)
      (subst (λ locks. AllByRecursion (StaysLocked s.tables state.tables) locks) (sym x.locks) (hold.names n x.before x.here s x.unended (sym x.snapshot ∙ snapshot)))
      (step n t here (runs t s unended snapshot))

  goes-on : LocksHold now
  goes-on = record {
    apart = λ m n a b other at_a at_b runs_a runs_b. apart-still m n a b other runs_a runs_b (was m a at_a runs_a) (was n b at_b runs_b);
    names = λ n t here s unended snapshot. names-still n t s here unended snapshot (was n t here (runs t s unended snapshot));
  }

-- ---- a Start

held-false : (a b c : Bool) → a ≡ true → b ≡ true → (a && b && c) ≡ false → c ≡ false
held-false true true c p q e = e
held-false true false c p q e = cc
held-false false b c p q e = cc

module _ (limits : Limits) (state : State) (number : ℕ) (txn : TxnId) (t : Transaction) (here : numbered state.transactions txn.0 ≡ Some t) (fits : StartFits limits state number t)
    (hold : LocksHold state) where
  -- the one that starts is apart from those that run
  from-started : (n : ℕ) (b : Transaction) → numbered state.transactions n ≡ Some b → IsRunning b → AreApart (locks_of t) (locks_of b)
  from-started n b at running =
      apart-by (locks_of t) (locks_of b)
      (held-false (is_open b) (is_started b) (locks_conflict (locks_of t) (locks_of b)) running.unended running.started
      (none-at (holds_against (locks_of t)) state.transactions n b fits.unlocked at))

  apart-started : (m n : ℕ) (a b : Transaction) → (m ≡ n → ⊥) → IsRunning a → IsRunning b
      → ((txn.0 ≡ m → ⊥) × (numbered state.transactions m ≡ Some a)) ⊎ IsStartedHere state txn.0 m t a
      → ((txn.0 ≡ n → ⊥) × (numbered state.transactions n ≡ Some b)) ⊎ IsStartedHere state txn.0 n t b
      → AreApart (locks_of a) (locks_of b)
  apart-started m n a b other runs_a runs_b (inl x) (inl y) = hold.apart m n a b other x.1 y.1 runs_a runs_b
  apart-started m n a b other runs_a runs_b (inl x) (inr y) =
      subst (λ locks. AreApart (locks_of a) locks) (sym y.locks) (apart-turned (locks_of t) (locks_of a) (from-started m a x.1 runs_a))
  apart-started m n a b other runs_a runs_b (inr x) (inl y) =
      subst (λ locks. AreApart locks (locks_of b)) (sym x.locks) (from-started n b y.1 runs_b)
  apart-started m n a b other runs_a runs_b (inr x) (inr y) = absurd (other (sym x.same ∙ y.same))

  snapshot-tables : (a s : Snapshot) → Some a ≡ Some s → (name : List ℕ) → StaysNamed s.tables a.tables name
  snapshot-tables a s e name = subst (λ (x : Snapshot). StaysNamed x.tables a.tables name) (one_value a s e) (named-same a.tables name)

  names-started : (n : ℕ) (x : Transaction) (s : Snapshot) → IsTrue (is_open x) → x.snapshot ≡ Some s
      → ((txn.0 ≡ n → ⊥) × (numbered state.transactions n ≡ Some x)) ⊎ IsStartedHere state txn.0 n t x
      → AllByRecursion (StaysLocked s.tables state.tables) (locks_of x)
  names-started n x s unended snapshot (inl same) = hold.names n x same.1 s unended snapshot
  names-started n x s unended snapshot (inr is) =
      all-names s.tables state.tables
      (snapshot-tables (record { place = state.entries; tables = state.tables; opened = length state.transactions }) s (sym is.snapshot ∙ snapshot)) (locks_of x)

  starts-on : LocksHold (after state (entry.Start txn number))
  unfolding acted
  starts-on = record {
    apart = λ m n a b other at_a at_b runs_a runs_b.
        apart-started m n a b other runs_a runs_b (came-started state number txn.0 m t a here fits.waiting at_a) (came-started state number txn.0 n t b here fits.waiting at_b);
    names = λ n x at s unended snapshot. names-started n x s unended snapshot (came-started state number txn.0 n t x here fits.waiting at);
  }

-- ---- a Create and a Drop, of a transaction whose name nobody else has locked

module _ (state : State) (k : ℕ) (t : Transaction) (here : numbered state.transactions k ≡ Some t) (running : IsRunning t) (hold : LocksHold state) where
  created-other : is_create (opening_tree t) ≡ true → (table : ℕ) (o : Option Transaction) → o ≡ Some t → (name : List ℕ)
      → bytes_eq (made_name (opening_tree t)) name ≡ false → is_named name (made_by table o) ≡ false
  created-other create table o is name other =
      ap (λ (p : Option Transaction). is_named name (made_by table p)) is
      ∙ ap (λ (text : List ℕ). bytes_eq text name) (shape-name (opening_tree t) create) ∙ other

  created-names : is_create (opening_tree t) ≡ true → (table n : ℕ) (x : Transaction) → (k ≡ n → ⊥) → numbered state.transactions n ≡ Some x → IsRunning x
      → AllByRecursion (StaysLocked state.tables (state.tables ++ made_by table (numbered state.transactions k) ∷ [])) (locks_of x)
  created-names create table n x other at runs_x =
      other-names (made_name (opening_tree t)) state.tables (state.tables ++ made_by table (numbered state.transactions k) ∷ [])
      (λ name free. named-more name (made_by table (numbered state.transactions k)) state.tables (created-other create table (numbered state.transactions k) here name free))
      (locks_of x) (made-lock (IsApart (locks_of x)) t create (hold.apart k n t x other here at running runs_x))

  dropped-names : is_drop (opening_tree t) ≡ true → (table : ℕ) → is_named_there (dropped_name (opening_tree t)) (numbered state.tables table) ≡ true
      → (n : ℕ) (x : Transaction) → (k ≡ n → ⊥) → numbered state.transactions n ≡ Some x → IsRunning x
      → AllByRecursion (StaysLocked state.tables (changed dropped state.tables table)) (locks_of x)
  dropped-names drop table named n x other at runs_x =
      other-names (dropped_name (opening_tree t)) state.tables (changed dropped state.tables table)
      (λ name free. named-dropped name (dropped_name (opening_tree t)) state.tables table named free)
      (locks_of x) (dropped-lock (IsApart (locks_of x)) t drop (hold.apart k n t x other here at running runs_x))

-- ---- each entry

never-ended : (ending : Ending) (x : Transaction) → is_open (ended ending x) ≡ true → ⊥
never-ended ending x e = let wrong : false ≡ true = e in cc

-- an entry that changes neither transactions nor tables
of-no-transaction : (state now : State) → LocksHold state → now.transactions ≡ state.transactions → now.tables ≡ state.tables → LocksHold now
of-no-transaction state now hold transactions tables =
    goes-on state now hold
    (λ n t at running. was-same state.transactions n t (ap (λ ts. numbered ts n) (sym transactions) ∙ at) running.unended)
    (λ n t at running. subst (λ (ts : List Table). AllByRecursion (StaysLocked state.tables ts) (locks_of t)) (sym tables)
    (all-names state.tables state.tables (named-same state.tables) (locks_of t)))

pub holds-after : (limits : Limits) (state : State) (event : Entry) → Fits limits state event → LocksHold state → LocksHold (after state event)
unfolding acted
holds-after limits state (entry.Boot run) fits hold =
    goes-on state (after state (entry.Boot run)) hold (λ n t at running. was-same state.transactions n t at running.unended)
    (λ n t at running. all-names state.tables state.tables (named-same state.tables) (locks_of t))
holds-after limits state (entry.Opened txn session number text) fits hold =
    goes-on state (after state (entry.Opened txn session number text)) hold
    (λ n t at running. there n t running (numbered-or-last state.transactions (opened session number text) n t at))
    (λ n t at running. all-names state.tables state.tables (named-same state.tables) (locks_of t))
  where
    there : (n : ℕ) (t : Transaction) → IsRunning t
        → (numbered state.transactions n ≡ Some t) ⊎ ((n ≡ length state.transactions + 1) × (t ≡ opened session number text)) → WasOpen state.transactions n t
    there n t running (inl at) = was-same state.transactions n t at running.unended
    there n t running (inr new) =
        let wrong : false ≡ true = sym (ap (λ (x : Transaction). is_some x.snapshot) new.1) ∙ running.started in
        cc
holds-after limits state (entry.Start txn statement) fits hold =
    let t = found (StartFits limits state statement) (numbered state.transactions txn.0) fits in
    starts-on limits state statement txn t.0 t.1 t.2 hold
holds-after limits state (entry.Given txn table write) fits hold =
    goes-on state (after state (entry.Given txn table write)) hold
    (λ n t at running. came-open (given_id table.0 write.0) (λ x. (refl, refl)) state.transactions txn.0 n t at running.unended)
    (λ n t at running. all-names state.tables (changed (owned txn.0) state.tables table.0)
    (λ name. named-changed (owned txn.0) name state.tables table.0 (λ x e. refl)) (locks_of t))
holds-after limits state (entry.Commit txn wrote) fits hold =
    goes-on state (after state (entry.Commit txn wrote)) hold
    (λ n t at running. was-same state.transactions n t (came-ended (committed state.entries wrote) (λ x e. never-ended (Committed state.entries wrote) (did 0 x) e) state.transactions txn.0 n t at running.unended).1 running.unended)
    (λ n t at running. all-names state.tables _ (λ name. named-written name (commits (numbered state.transactions txn.0)) state.tables) (locks_of t))
holds-after limits state (entry.Abort txn cause) fits hold =
    goes-on state (after state (entry.Abort txn cause)) hold
    (λ n t at running. was-same state.transactions n t (came-ended (ended (Aborted state.entries cause)) (never-ended (Aborted state.entries cause)) state.transactions txn.0 n t at running.unended).1 running.unended)
    (λ n t at running. all-names state.tables state.tables (named-same state.tables) (locks_of t))
holds-after limits state (entry.Create txn table) fits hold =
    let t = found (CreateFits state table.0) (numbered state.transactions txn.0) fits in
    goes-on state (after state (entry.Create txn table)) hold
    (λ n x at running. was-same state.transactions n x (came-ended (ended (Made state.entries table.0)) (never-ended (Made state.entries table.0)) state.transactions txn.0 n x at running.unended).1 running.unended)
    (λ n x at running.
    let other = came-ended (ended (Made state.entries table.0)) (never-ended (Made state.entries table.0)) state.transactions txn.0 n x at running.unended in
    created-names state txn.0 t.0 t.1 t.2.running hold t.2.create table.0 n x other.0 other.1 running)
holds-after limits state (entry.Drop txn table) fits hold =
    let t = found (DropFits state table.0) (numbered state.transactions txn.0) fits in
    goes-on state (after state (entry.Drop txn table)) hold
    (λ n x at running. was-same state.transactions n x (came-ended (ended (Dropped state.entries table.0)) (never-ended (Dropped state.entries table.0)) state.transactions txn.0 n x at running.unended).1 running.unended)
    (λ n x at running.
    let other = came-ended (ended (Dropped state.entries table.0)) (never-ended (Dropped state.entries table.0)) state.transactions txn.0 n x at running.unended in
    dropped-names state txn.0 t.0 t.1 t.2.running hold t.2.drop table.0 t.2.named n x other.0 other.1 running)
holds-after limits state (entry.Asked job table partition kind by) fits hold = of-no-transaction state (after state (entry.Asked job table partition kind by)) hold refl refl
holds-after limits state (entry.Picked job watermark) fits hold = of-no-transaction state (after state (entry.Picked job watermark)) hold refl refl
holds-after limits state (entry.Published job low high mark) fits hold = of-no-transaction state (after state (entry.Published job low high mark)) hold refl refl
holds-after limits state (entry.Empty job) fits hold = of-no-transaction state (after state (entry.Empty job)) hold refl refl
holds-after limits state (entry.Cleaned job) fits hold = of-no-transaction state (after state (entry.Cleaned job)) hold refl refl
holds-after limits state (entry.Failed job cause) fits hold = of-no-transaction state (after state (entry.Failed job cause)) hold refl refl
holds-after limits state (entry.Forgot table write) fits hold =
    goes-on state (after state (entry.Forgot table write)) hold (λ n t at running. was-same state.transactions n t at running.unended)
    (λ n t at running. all-names state.tables (changed (forgot write.0) state.tables table.0)
    (λ name. named-changed (forgot write.0) name state.tables table.0 (λ x e. refl)) (locks_of t))
holds-after limits state (entry.Next txn statement number text) fits hold = absurd fits
holds-after limits state (entry.Did txn statement wrote) fits hold = absurd fits
holds-after limits state (entry.Alter txn table) fits hold = absurd fits

-- ---- every book whose entries fit

nothing-holds : LocksHold nothing_yet
nothing-holds = record {
  apart = λ m n a b other at_a at_b runs_a runs_b. absurd (none-numbered m a at_a);
  names = λ n t at. absurd (none-numbered n t at);
}

holds-all : (limits : Limits) (book : List Entry) (state : State) → AllFit limits state book → LocksHold state → LocksHold (fold after state book)
holds-all limits [] state fit hold = hold
holds-all limits (event ∷ book) state fit hold = holds-all limits book (after state event) fit.1 (holds-after limits state event fit.0 hold)

pub locks-apart : LocksAreApart
locks-apart limits book m n a b fit other at_a at_b runs_a runs_b =
    (holds-all limits book nothing_yet fit nothing-holds).apart m n a b other at_a at_b runs_a runs_b

pub names-stay : LockedNamesStay
names-stay limits book n t fit at = (holds-all limits book nothing_yet fit nothing-holds).names n t at

-- ---- what a statement that runs finds

all-at : {X : Type 0} (P : X → Type 0) (xs : List X) (n : ℕ) (x : X) → AllByRecursion P xs → slice_get xs n ≡ Some x → P x
all-at P [] n x h e = cc
all-at P (y ∷ xs) zero x h e = subst P (one_value y x e) h.0
all-at P (y ∷ xs) (suc n) x h e = all-at P xs n x h.1 e

live-some : (name : List ℕ) (o : Option Table) → is_named_there name o ≡ true → IsSomeAnd o (λ (table : Table). IsTrue table.is_live)
live-some name None e = cc
live-some name (Some table) e = live-there name table e

pub given-live : GivenTablesLive
given-live limits book n t s lock table fit holds named =
    let stays = all-at (StaysLocked s.tables (state_of book).tables) (locks_of t) holds.place lock
    (names-stay limits book n t fit holds.here s holds.unended holds.snapshot) holds.held in
    live-some lock.name (numbered (state_of book).tables table) (stays table ∙ named)

pub created-free : CreatedNamesAreFree
created-free limits book n t s fit way create free =
    let stays = made-lock (StaysLocked s.tables (state_of book).tables) t create (names-stay limits book n t fit way.here s way.unended way.snapshot) in
    nowhere (made_name (opening_tree t)) (state_of book).tables (λ k. stays (suc k) ∙ none-there (made_name (opening_tree t)) s.tables free k)

pub dropped-named : DroppedTablesAreNamed
dropped-named limits book n t s table fit way drop named =
    let stays = dropped-lock (StaysLocked s.tables (state_of book).tables) t drop (names-stay limits book n t fit way.here s way.unended way.snapshot) in
    stays table ∙ named
