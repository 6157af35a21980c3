-- What locks keep: which locks are apart, and that a name means what it meant.
use Rattle.std.specs.Prelude.{◌≡◌, ℕ, IsTrue, IsFalse, Some, List}
use Rattle.std.specs.List.{AllByRecursion}
use Rattle.hv_locks.specs.declared.table.Lock.{Lock}
use Rattle.hv_locks.specs.Locking.{conflict}
use Rattle.hv_history.specs.declared.state.Table.{Table}
use Rattle.hv_history.specs.declared.state.Snapshot.{Snapshot}
use Rattle.hv_history.specs.declared.state.Transaction.{Transaction}
use Rattle.hv_history.specs.State.{State, numbered}
use Rattle.hv_history.specs.Legal.{IsRunning, is_open, is_named_there, locks_of}

-- the lock conflicts with none of those
abbrev pub IsApart : List Lock → Lock → Type 0
IsApart those lock = AllByRecursion (λ (other : Lock). IsFalse (conflict lock other)) those

-- none of these conflicts with one of those
abbrev pub AreApart : List Lock → List Lock → Type 0
AreApart these those = AllByRecursion (IsApart those) these

-- under this name stand the live tables that stood there before
abbrev pub StaysNamed : List Table → List Table → List ℕ → Type 0
StaysNamed before now name = (n : ℕ) → is_named_there name (numbered now n) ≡ is_named_there name (numbered before n)

abbrev pub StaysLocked : List Table → List Table → Lock → Type 0
StaysLocked before now lock = StaysNamed before now lock.name

-- of a transaction that is open
abbrev pub KeepsNames : State → Transaction → Type 0
KeepsNames state transaction =
    (s : Snapshot) → IsTrue (is_open transaction) → transaction.snapshot ≡ Some s
    → AllByRecursion (StaysLocked s.tables state.tables) (locks_of transaction)

-- what holds of every state that a book of entries that fit leaves
pub record LocksHold (state : State) : Type 0 where
  pub apart : (m n : ℕ) (a b : Transaction) → (m ≡ n → ⊥) → numbered state.transactions m ≡ Some a → numbered state.transactions n ≡ Some b
      → IsRunning a → IsRunning b → AreApart (locks_of a) (locks_of b)
  pub names : (n : ℕ) (t : Transaction) → numbered state.transactions n ≡ Some t → KeepsNames state t
