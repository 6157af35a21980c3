-- What the texts of a book say of locks, where each of them runs.
use Rattle.std.specs.Prelude.{◌≡◌, ◌≢◌, ℕ, Bool, false, not, IsTrue, if◌then◌else◌, Option, Some, None, List, [], ◌∷◌, map}
use Rattle.std.specs.List.{AllByRecursion}
use Rattle.hv_ast.specs.declared.statement.Stmt.{Stmt}
use Rattle.hv_built.specs.Running.{Runs}
use Rattle.hv_locks.specs.declared.table.Lock.{Lock}
use Rattle.hv_history.specs.declared.entry.Entry.{Entry}
use Rattle.hv_history.specs.declared.entry.Entry.TheVariants as entry
use Rattle.hv_history.specs.declared.state.Statement.{Statement}
use Rattle.hv_history.specs.declared.state.Transaction.{Transaction}
use Rattle.hv_history.specs.State.{State, numbered, opening_tree}
use Rattle.hv_history.specs.Legal.{Of, IsStatement, IsRunning, IsWaiting, IsUnlocked, holds_against, asks_to_abort}
use Rattle.hv_meta.specs.declared.facts.TxnState.{TxnState}
use Rattle.hv_meta.specs.declared.facts.TxnState.TheVariants.{Running}

abbrev pub text_of : Statement → List ℕ
text_of statement = statement.text

-- a transaction has one statement, whose text runs
pub record HasOneText (transaction : Transaction) : Type 0 where
  pub text : List ℕ
  pub tree : Stmt
  pub only : map text_of transaction.statements ≡ text ∷ []
  pub runs : Runs text tree

abbrev pub TextsRun : State → Type 0
TextsRun state = AllByRecursion HasOneText state.transactions

-- the transaction is there, and holds locks that conflict with these
abbrev pub holds_at : List Lock → Option Transaction → Bool
holds_at locks None = false
holds_at locks (Some transaction) = holds_against locks transaction

-- the transaction of that number does so
unfoldable pub holds_among : List Lock → List Transaction → ℕ → Bool
holds_among locks transactions number = holds_at locks (numbered transactions number)

-- the first of these numbers of which the fact holds
abbrev pub first_among : (ℕ → Bool) → List ℕ → Option ℕ
first_among is_so [] = None
first_among is_so (number ∷ numbers) = if is_so number then Some number else first_among is_so numbers

-- it has not ended, and has not started
abbrev pub is_waiting_state : TxnState → Bool
is_waiting_state (Running started) = not started
is_waiting_state _ = false

-- the transaction may start, where there is room for it
pub record IsReady (state : State) (transaction : Transaction) : Type 0 where
  pub waiting : IsWaiting transaction
  pub unlocked : IsUnlocked state transaction

-- a transaction that runs, and whose text asks for the abort of that one
abbrev pub Asks : ℕ → Transaction → Type 0
Asks txn asker = IsRunning asker × IsTrue (asks_to_abort txn (opening_tree asker))

-- the transaction of that number does so, and is another one
pub record AsksOther (state : State) (txn by : ℕ) : Type 0 where
  pub other : by ≢ txn
  pub asks : Of state by (Asks txn)

-- something is handed in with an Opened exactly where its text runs
abbrev pub IsTreeOf : List ℕ → Option Stmt → Type 0
IsTreeOf text (Some tree) = IsStatement text
IsTreeOf text None = IsStatement text → ⊥

abbrev pub IsHanded : Entry → Option Stmt → Type 0
IsHanded (entry.Opened txn session number text) tree = IsTreeOf text tree
IsHanded _ tree = Unit {0}
