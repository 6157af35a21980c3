-- What is proved of locks, over books whose entries fit.
use Rattle.std.specs.Prelude.{◌≡◌, ℕ, IsTrue, IsFalse, IsSomeAnd, Some, List, slice_get}
use Rattle.std.specs.List.{list_any}
use Rattle.hv_base.specs.declared.ids.Limits.{Limits}
use Rattle.hv_locks.specs.declared.table.Lock.{Lock}
use Rattle.hv_history.specs.declared.entry.Entry.{Entry}
use Rattle.hv_history.specs.declared.state.Table.{Table}
use Rattle.hv_history.specs.declared.state.Snapshot.{Snapshot}
use Rattle.hv_history.specs.declared.state.Transaction.{Transaction}
use Rattle.hv_history.specs.State.{numbered, state_of, nothing_yet, opening_tree}
use Rattle.hv_history.specs.Legal.{AllFit, IsRunning, is_open, locks_of, is_named, is_named_there, is_create, made_name, is_drop, dropped_name}
use Rattle.hv_law_locks.specs.Locked.{AreApart, KeepsNames}

abbrev pub LocksAreApart : Type 0
LocksAreApart =
    (limits : Limits) (book : List Entry) (m n : ℕ) (a b : Transaction) → AllFit limits nothing_yet book → (m ≡ n → ⊥)
    → numbered (state_of book).transactions m ≡ Some a → numbered (state_of book).transactions n ≡ Some b
    → IsRunning a → IsRunning b → AreApart (locks_of a) (locks_of b)

abbrev pub LockedNamesStay : Type 0
LockedNamesStay =
    (limits : Limits) (book : List Entry) (n : ℕ) (t : Transaction) → AllFit limits nothing_yet book
    → numbered (state_of book).transactions n ≡ Some t → KeepsNames (state_of book) t

-- ---- what a statement that runs finds

-- a transaction that is open, its snapshot, and one of its locks
pub record HoldsLock (book : List Entry) (n : ℕ) (t : Transaction) (s : Snapshot) (lock : Lock) : Type 0 where
  pub here : numbered (state_of book).transactions n ≡ Some t
  pub unended : IsTrue (is_open t)
  pub snapshot : t.snapshot ≡ Some s
  pub place : ℕ
  pub held : slice_get (locks_of t) place ≡ Some lock

-- a table that was live under a locked name is live
abbrev pub GivenTablesLive : Type 0
GivenTablesLive =
    (limits : Limits) (book : List Entry) (n : ℕ) (t : Transaction) (s : Snapshot) (lock : Lock) (table : ℕ) → AllFit limits nothing_yet book
    → HoldsLock book n t s lock → IsTrue (is_named_there lock.name (numbered s.tables table))
    → IsSomeAnd (numbered (state_of book).tables table) (λ (found : Table). IsTrue found.is_live)

-- a CREATE TABLE and a DROP TABLE, under way
pub record IsUnderWayTo (book : List Entry) (n : ℕ) (t : Transaction) (s : Snapshot) : Type 0 where
  pub here : numbered (state_of book).transactions n ≡ Some t
  pub unended : IsTrue (is_open t)
  pub snapshot : t.snapshot ≡ Some s

abbrev pub CreatedNamesAreFree : Type 0
CreatedNamesAreFree =
    (limits : Limits) (book : List Entry) (n : ℕ) (t : Transaction) (s : Snapshot) → AllFit limits nothing_yet book
    → IsUnderWayTo book n t s → IsTrue (is_create (opening_tree t))
    → IsFalse (list_any (is_named (made_name (opening_tree t))) s.tables)
    → IsFalse (list_any (is_named (made_name (opening_tree t))) (state_of book).tables)

abbrev pub DroppedTablesAreNamed : Type 0
DroppedTablesAreNamed =
    (limits : Limits) (book : List Entry) (n : ℕ) (t : Transaction) (s : Snapshot) (table : ℕ) → AllFit limits nothing_yet book
    → IsUnderWayTo book n t s → IsTrue (is_drop (opening_tree t))
    → IsTrue (is_named_there (dropped_name (opening_tree t)) (numbered s.tables table))
    → IsTrue (is_named_there (dropped_name (opening_tree t)) (numbered (state_of book).tables table))
