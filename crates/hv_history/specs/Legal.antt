-- Which entries fit a book, which are true, and which books are legal. Opening a store tests what fits; what is
-- true of a store that somebody else wrote is a premise.
-- Source: Hive Transactions (a transaction's states, locks, first committer wins); the journal and its room are this
-- project's.
use Rattle.std.specs.Prelude.{◌≡◌, ◌≢◌, ℕ, ◌+◌, ◌<◌, ◌==◌, ◌&&◌, Bool, true, false, if◌then◌else◌, nat_lt, IsTrue, IsFalse, ◌⊎◌, Option, Some, None, IsSome, IsNone, IsSomeAnd, List, [], ◌∷◌, length}
use Rattle.std.specs.declared.cmp.Ordering.{Ordering}
use Rattle.std.specs.declared.cmp.Ordering.TheVariants.{Less}
use Rattle.std.specs.Ordering.{nat_cmp, on, then_cmp}
use Rattle.std.specs.Cmp.Lexicographic.{slice_cmp, pointwise}
use Rattle.std.specs.List.{list_any, AllByRecursion}
use Rattle.std.specs.Prelude.{nat_eq}
use Rattle.hv_base.specs.Refusals as refusals
use Rattle.hv_base.specs.declared.ids.Limits.{Limits}
use Rattle.hv_base.specs.declared.ids.Touch.{Touch}
use Rattle.hv_locks.specs.declared.table.Lock.{Lock}
use Rattle.hv_locks.specs.Locking.{conflict}
use Rattle.hv_meaning.specs.hv_typing.specs.hv_logic.specs.hv_ast.specs.declared.statement.Stmt.{Stmt}
use Rattle.hv_meaning.specs.hv_typing.specs.hv_logic.specs.hv_ast.specs.declared.statement.Stmt.TheVariants as stmt
use Rattle.hv_built.specs.Running.{Runs}
use Rattle.hv_meaning.specs.hv_typing.specs.hv_logic.specs.declared.meaning.Meaning.{Meaning}
use Rattle.hv_meaning.specs.hv_typing.specs.hv_logic.specs.declared.meaning.Meaning.TheVariants.{Refused, Listing, Change, Make, Unmake, Ask, Plain, Twice, RowLimit, PartitionLimit}
use Rattle.hv_meaning.specs.hv_route.specs.Back.{AreFlat}
use Rattle.hv_meaning.specs.hv_route.specs.Touching.{touches_of}
use Rattle.hv_history.specs.declared.entry.Entry.{Entry}
use Rattle.hv_history.specs.declared.entry.Entry.TheVariants as entry
use Rattle.hv_history.specs.declared.entry.Cause.{Cause}
use Rattle.hv_history.specs.declared.entry.Cause.TheVariants as cause
use Rattle.hv_history.specs.Asking.{asked_by}
pub use Rattle.hv_history.specs.Standing.{is_open, is_started, locks_of_tree, locks_of, is_named}
use Rattle.hv_history.specs.State.{State, Table, Transaction, Ending, Committed, numbered, meaning, opening_tree, created_shape, given_in, nothing_yet, after}
pub use Rattle.hv_history.specs.Load.{Of, IsRunning, IsWaiting, place_of_snapshot, profile, is_working, one_if, open_one, working_one, load, HasRoom}
use Rattle.hv_history.specs.JobsTrue.{ask_of, stands_for, IsAskedFor}
use Rattle.hv_history.specs.JobsFit.{OfJob, AskedFits, PickedFits, PublishedFits, EmptyFits, FailedFits, CleanedFits, ForgotFits}

-- ---- locks

-- a lock conflicts with one of these
abbrev pub conflicts_with_any : List Lock → Lock → Bool
conflicts_with_any those lock = list_any (conflict lock) those

abbrev pub locks_conflict : List Lock → List Lock → Bool
locks_conflict these those = list_any (conflicts_with_any those) these

-- an open started transaction whose locks conflict with these
abbrev pub holds_against : List Lock → Transaction → Bool
holds_against locks transaction = is_open transaction && is_started transaction && locks_conflict locks (locks_of transaction)

abbrev pub IsUnlocked : State → Transaction → Type 0
IsUnlocked state transaction = IsFalse (list_any (holds_against (locks_of transaction)) state.transactions)

-- the first of these transactions that holds locks against these, by its number, where the first one's is given
abbrev pub first_holder : List Lock → ℕ → List Transaction → Option ℕ
first_holder locks number [] = None
first_holder locks number (transaction ∷ transactions) =
    if holds_against locks transaction then Some number else first_holder locks (number + 1) transactions

-- ---- conflicts: two commits conflict where both deleted rows in one partition of one table

abbrev pub touch_conflicts : Touch → Touch → Bool
touch_conflicts a b =
    (a.table.0 == b.table.0) && pointwise nat_eq a.partition b.partition && nat_lt 0 a.deleted && nat_lt 0 b.deleted

abbrev pub touches_conflict : List Touch → List Touch → Bool
touches_conflict these those = list_any (λ a. list_any (touch_conflicts a) those) these

abbrev pub commits_against : ℕ → List Touch → Option Ending → Bool
commits_against place wrote (Some (Committed at those)) = nat_lt place at && touches_conflict wrote those
commits_against place wrote _ = false

-- the same, before a place
abbrev pub commits_before : ℕ → ℕ → List Touch → Option Ending → Bool
commits_before place end wrote (Some (Committed at those)) = nat_lt place at && (nat_lt at end && touches_conflict wrote those)
commits_before place end wrote _ = false

-- no commit behind the snapshot conflicts with these touches
abbrev pub MeetsNoConflict : State → Transaction → List Touch → Type 0
MeetsNoConflict state transaction wrote =
    IsFalse (list_any (λ (other : Transaction). commits_against (place_of_snapshot transaction.snapshot) wrote other.ending) state.transactions)

-- ---- what fits: this rests on the entries before it alone, and on no meaning

-- the text is a statement, of a form that runs
abbrev pub IsStatement : List ℕ → Type 0
IsStatement text = (tree : Stmt) × Runs text tree

abbrev pub is_create : Option Stmt → Bool
is_create (Some (stmt.CreateTable create)) = true
is_create _ = false

-- the name of the table that a text makes
abbrev pub made_name : Option Stmt → List ℕ
made_name (Some (stmt.CreateTable create)) = create.table
made_name _ = []

abbrev pub is_drop : Option Stmt → Bool
is_drop (Some (stmt.DropTable drop)) = true
is_drop _ = false

-- the name of the table that a text drops
abbrev pub dropped_name : Option Stmt → List ℕ
dropped_name (Some (stmt.DropTable drop)) = drop.table
dropped_name _ = []

-- the table is there, live, and of that name
abbrev pub is_named_there : List ℕ → Option Table → Bool
is_named_there name None = false
is_named_there name (Some table) = is_named name table

pub record BootFits (limits : Limits) (state : State) (run : ℕ) : Type 0 where
  pub next : run ≡ state.openings.count
  pub room : HasRoom limits state 1

pub record OpenedFits (limits : Limits) (state : State) (txn : ℕ) (text : List ℕ) : Type 0 where
  pub next : txn ≡ length state.transactions + 1
  pub statement : IsStatement text
  pub room : HasRoom limits state 2

pub record StartFits (limits : Limits) (state : State) (statement : ℕ) (transaction : Transaction) : Type 0 where
  pub waiting : IsWaiting transaction
  pub first : statement ≡ 0
  pub unlocked : IsUnlocked state transaction
  pub room : HasRoom limits state 1

pub record GivenFits (limits : Limits) (state : State) (table write : ℕ) (transaction : Transaction) : Type 0 where
  pub running : IsRunning transaction
  pub live : IsSomeAnd (numbered state.tables table) (λ t. IsTrue t.is_live × (write ≡ length t.owners + 1))
  pub first : IsNone (given_in table transaction.given)
  pub room : HasRoom limits state 1

-- touches rise by table and partition
abbrev pub touch_cmp : Touch → Touch → Ordering
touch_cmp = then_cmp (on (λ (touch : Touch). touch.table.0) nat_cmp) (on (λ (touch : Touch). touch.partition) (slice_cmp nat_cmp))

abbrev pub Rise : List Touch → Type 0
Rise [] = Unit {0}
Rise (a ∷ []) = Unit {0}
Rise (a ∷ b ∷ touches) = (touch_cmp a b ≡ Less) × Rise (b ∷ touches)

-- a touch has a row, and its transaction was given an id in its table
pub record IsOwnTouch (transaction : Transaction) (touch : Touch) : Type 0 where
  pub some : 0 < touch.inserted + touch.deleted
  pub given : IsSome (given_in touch.table.0 transaction.given)

abbrev pub is_touched : List Touch → ℕ × ℕ → Bool
is_touched wrote given = list_any (λ (touch : Touch). touch.table.0 == given.0) wrote

pub record CommitFits (state : State) (wrote : List Touch) (transaction : Transaction) : Type 0 where
  pub running : IsRunning transaction
  pub rise : Rise wrote
  pub own : AllByRecursion (IsOwnTouch transaction) wrote
  pub used : AllByRecursion (λ given. IsTrue (is_touched wrote given)) transaction.given
  pub clear : MeetsNoConflict state transaction wrote

-- a Create is counted by Creates, whatever they made; no partition column is an ARRAY, since no text of a partition says one
pub record CreateFits (state : State) (table : ℕ) (transaction : Transaction) : Type 0 where
  pub running : IsRunning transaction
  pub create : IsTrue (is_create (opening_tree transaction))
  pub flat : AreFlat (created_shape (opening_tree transaction)).parts
  pub absent : IsFalse (list_any (is_named (made_name (opening_tree transaction))) state.tables)
  pub next : table ≡ length state.tables + 1

-- the name is free at once; what the table's files hold stands until it is cleaned
pub record DropFits (state : State) (table : ℕ) (transaction : Transaction) : Type 0 where
  pub running : IsRunning transaction
  pub drop : IsTrue (is_drop (opening_tree transaction))
  pub named : IsTrue (is_named_there (dropped_name (opening_tree transaction)) (numbered state.tables table))

-- ---- an Abort's cause

-- a commit behind that place that deleted rows in the partition of a table
abbrev pub deletes_in : ℕ → List ℕ → Touch → Bool
deletes_in table partition touch = (touch.table.0 == table) && (pointwise nat_eq touch.partition partition && nat_lt 0 touch.deleted)

abbrev pub deleted_behind : ℕ → ℕ → List ℕ → Option Ending → Bool
deleted_behind place table partition (Some (Committed at wrote)) = nat_lt place at && list_any (deletes_in table partition) wrote
deleted_behind place table partition _ = false

pub record ConflictFits (state : State) (by table : ℕ) (partition : List ℕ) (transaction : Transaction) : Type 0 where
  pub running : IsRunning transaction
  pub committed : Of state by (λ other. IsTrue (deleted_behind (place_of_snapshot transaction.snapshot) table partition other.ending))

-- the text asks for the abort of that transaction
abbrev pub asks_to_abort : ℕ → Option Stmt → Bool
asks_to_abort txn (Some (stmt.AbortTransactions txns)) = list_any (λ other. other == txn) txns
asks_to_abort txn _ = false

pub record RequestFits (state : State) (txn by : ℕ) (transaction : Transaction) : Type 0 where
  pub unended : IsTrue (is_open transaction)
  pub other : by ≢ txn
  pub asks : Of state by (λ asker. IsRunning asker × IsTrue (asks_to_abort txn (opening_tree asker)))

pub record FullFits (limits : Limits) (state : State) (transaction : Transaction) : Type 0 where
  pub unended : IsTrue (is_open transaction)
  pub full : limits.entries < load state + 1

pub record BlockedFits (state : State) (holder : ℕ) (transaction : Transaction) : Type 0 where
  pub waiting : IsWaiting transaction
  pub held : first_holder (locks_of transaction) 1 state.transactions ≡ Some holder

-- each count of faults is kept once behind an opening
pub record FaultFits (state : State) (count : ℕ) (transaction : Transaction) : Type 0 where
  pub running : IsRunning transaction
  pub fresh : IsFalse (list_any (λ other. other == count) state.openings.kept)

pub record LostFits (state : State) (transaction : Transaction) : Type 0 where
  pub unended : IsTrue (is_open transaction)
  pub behind : IsTrue state.openings.only_lost

abbrev pub CauseFits : Limits → State → ℕ → Cause → Transaction → Type 0
CauseFits limits state txn (cause.Refused number) transaction = IsRunning transaction
CauseFits limits state txn (cause.Conflict by table partition) transaction = ConflictFits state by.0 table.0 partition transaction
CauseFits limits state txn (cause.Request by) transaction = RequestFits state txn by.0 transaction
CauseFits limits state txn cause.Full transaction = FullFits limits state transaction
CauseFits limits state txn (cause.Twice partition row) transaction = IsRunning transaction
CauseFits limits state txn (cause.Blocked holder) transaction = BlockedFits state holder.0 transaction
CauseFits limits state txn (cause.ReadFault count) transaction = FaultFits state count transaction
CauseFits limits state txn (cause.WriteFault count) transaction = FaultFits state count transaction
CauseFits limits state txn (cause.Damaged place) transaction = IsRunning transaction
CauseFits limits state txn cause.RowLimit transaction = IsRunning transaction
CauseFits limits state txn cause.PartitionLimit transaction = IsRunning transaction
CauseFits limits state txn cause.Memory transaction = IsTrue (is_open transaction)
CauseFits limits state txn cause.Lost transaction = LostFits state transaction
CauseFits limits state txn cause.Rollback transaction = ⊥

-- the entry fits a book that leaves this state; those of compaction and of forgetting by specs/JobsFit, those of transactions of several
-- statements and of added columns come later
abbrev pub Fits : Limits → State → Entry → Type 0
Fits limits state (entry.Boot run) = BootFits limits state run
Fits limits state (entry.Opened txn session number text) = OpenedFits limits state txn.0 text
Fits limits state (entry.Start txn statement) = Of state txn.0 (StartFits limits state statement)
Fits limits state (entry.Given txn table write) = Of state txn.0 (GivenFits limits state table.0 write.0)
Fits limits state (entry.Commit txn wrote) = Of state txn.0 (CommitFits state wrote)
Fits limits state (entry.Abort txn cause) = Of state txn.0 (CauseFits limits state txn.0 cause)
Fits limits state (entry.Create txn table) = Of state txn.0 (CreateFits state table.0)
Fits limits state (entry.Drop txn table) = Of state txn.0 (DropFits state table.0)
Fits limits state (entry.Asked job table partition kind by) = AskedFits limits state job.0 table.0 partition kind by
Fits limits state (entry.Picked job mark) = OfJob state job.0 (PickedFits limits state job.0 mark.0)
Fits limits state (entry.Published job low high mark) = OfJob state job.0 (PublishedFits state low.0 high.0 mark.0)
Fits limits state (entry.Empty job) = OfJob state job.0 (EmptyFits state)
Fits limits state (entry.Cleaned job) = OfJob state job.0 (CleanedFits limits state)
Fits limits state (entry.Failed job cause) = OfJob state job.0 (FailedFits state cause)
Fits limits state (entry.Forgot table write) = IsSomeAnd (numbered state.tables table.0) (ForgotFits limits state write.0)
Fits limits state _ = ⊥

-- ---- what is true: an entry says of its statement what it came to at its Start

-- these touches are what the statement means
abbrev pub TouchesAreMeant : List Touch → Option Meaning → Type 0
TouchesAreMeant wrote (Some (Listing names rows)) = wrote ≡ []
TouchesAreMeant wrote (Some (Change info effect)) = wrote ≡ touches_of info effect
TouchesAreMeant wrote (Some Plain) = wrote ≡ []
TouchesAreMeant wrote (Some (Ask table partition kind)) = wrote ≡ []
TouchesAreMeant wrote _ = ⊥

-- a statement that comes to nothing has asked for each abort that its text lists; of one that asks for a compaction a job stands, its own or
-- another one that was busy
abbrev pub HasAsked : State → ℕ → Transaction → Option Meaning → Type 0
HasAsked state own transaction (Some Plain) = asked_by state own transaction ≡ None
HasAsked state own transaction (Some (Ask table partition kind)) =
    IsTrue (stands_for state transaction (ask_of table partition kind))
HasAsked state own transaction _ = Unit {0}

-- what a commit says of its statement is what it came to
pub record CommitIsTrue (state : State) (own : ℕ) (wrote : List Touch) (transaction : Transaction) : Type 0 where
  pub touches : TouchesAreMeant wrote (meaning transaction)
  pub asked : HasAsked state own transaction (meaning transaction)

abbrev pub IsMake : Option Meaning → Type 0
IsMake (Some (Make shape)) = Unit {0}
IsMake _ = ⊥

-- the statement changes rows, and its transaction has no write id yet
abbrev pub NeedsId : List (ℕ × ℕ) → Option Meaning → Type 0
NeedsId [] (Some (Change info effect)) = 0 < length effect.inserts + length effect.deletes
NeedsId _ _ = ⊥

-- there was no room for what it was to add: a write id, or the job that it asks for
abbrev pub NeedsRoom : State → Transaction → Option Meaning → Type 0
NeedsRoom state transaction (Some (Ask table partition kind)) =
    IsFalse (stands_for state transaction (ask_of table partition kind))
NeedsRoom state transaction meaning = NeedsId transaction.given meaning

-- the first of these touches that conflicts with one of those
abbrev pub first_shared : List Touch → List Touch → Option Touch
first_shared [] those = None
first_shared (touch ∷ wrote) those = if list_any (touch_conflicts touch) those then Some touch else first_shared wrote those

-- the first conflicting commit behind the snapshot is the one that is named, and so is the first place that they share
pub record IsFirstConflict (state : State) (place : ℕ) (wrote : List Touch) (by : ℕ) (table : ℕ) (partition : List ℕ) : Type 0 where
  pub other : Transaction
  pub named : numbered state.transactions by ≡ Some other
  pub at : ℕ
  pub those : List Touch
  pub commit : other.ending ≡ Some (Committed at those)
  pub behind : place < at
  pub shared : Touch
  pub is_first : first_shared wrote those ≡ Some shared
  pub table_is : table ≡ shared.table.0
  pub partition_is : partition ≡ shared.partition
  pub earliest : IsFalse (list_any (λ (t : Transaction). commits_before place at wrote t.ending) state.transactions)

abbrev pub ConflictIsTrue : State → ℕ → ℕ → List ℕ → Transaction → Option Meaning → Type 0
ConflictIsTrue state by table partition transaction (Some (Change info effect)) =
    IsFirstConflict state (place_of_snapshot transaction.snapshot) (touches_of info effect) by table partition
ConflictIsTrue state by table partition transaction _ = ⊥

abbrev pub IsRefusedAs : ℕ → Option Meaning → Type 0
IsRefusedAs number (Some (Refused other)) = number ≡ refusals.number other
IsRefusedAs number _ = ⊥

abbrev pub CauseIsTrue : State → Cause → Transaction → Type 0
CauseIsTrue state (cause.Refused number) transaction = IsRefusedAs number (meaning transaction)
CauseIsTrue state (cause.Conflict by table partition) transaction = ConflictIsTrue state by.0 table.0 partition transaction (meaning transaction)
CauseIsTrue state cause.Full transaction =
    IsFalse (is_started transaction) ⊎ NeedsRoom state transaction (meaning transaction)
CauseIsTrue state (cause.Twice partition row) transaction = meaning transaction ≡ Some (Twice partition row)
CauseIsTrue state cause.RowLimit transaction = meaning transaction ≡ Some RowLimit
CauseIsTrue state cause.PartitionLimit transaction = meaning transaction ≡ Some PartitionLimit
CauseIsTrue state _ transaction = Unit {0}

abbrev pub IsTruthful : State → Entry → Type 0
IsTruthful state (entry.Commit txn wrote) = Of state txn.0 (CommitIsTrue state txn.0 wrote)
IsTruthful state (entry.Create txn table) = Of state txn.0 (λ transaction. IsMake (meaning transaction))
IsTruthful state (entry.Drop txn table) = Of state txn.0 (λ transaction. meaning transaction ≡ Some (Unmake table))
IsTruthful state (entry.Abort txn cause) = Of state txn.0 (CauseIsTrue state cause)
IsTruthful state (entry.Asked job table partition kind by) =
    IsAskedFor state (record { table = table.0; partition = partition; kind = kind }) by
IsTruthful state _ = Unit {0}

-- ---- legal books: each entry fits, and each is true, behind the ones before it

abbrev pub AllFit : Limits → State → List Entry → Type 0
AllFit limits state [] = Unit {0}
AllFit limits state (event ∷ book) = Fits limits state event × AllFit limits (after state event) book

abbrev pub AllTruthful : State → List Entry → Type 0
AllTruthful state [] = Unit {0}
AllTruthful state (event ∷ book) = IsTruthful state event × AllTruthful (after state event) book

pub record IsLegalFrom (limits : Limits) (state : State) (book : List Entry) : Type 0 where
  pub fit : AllFit limits state book
  pub truthful : AllTruthful state book

abbrev pub IsLegal : Limits → List Entry → Type 0
IsLegal limits book = IsLegalFrom limits nothing_yet book
