-- How one thread carries a statement on, beside any others: what is proved of the entries that a run adds for it.
use Rattle.std.specs.Prelude.{◌≡◌, ℕ, Bool, true, false, Option, Some, None, List, [], ◌∷◌, ◌++◌}
use Rattle.hv_base.specs.declared.gate.Stage.{Stage}
use Rattle.hv_base.specs.declared.gate.Stage.TheVariants as stage
use Rattle.hv_logic.specs.declared.meaning.Meaning.{Meaning}
use Rattle.hv_logic.specs.declared.meaning.Meaning.TheVariants.{Refused, Change, Twice, RowLimit, PartitionLimit}
use Rattle.hv_history.specs.declared.entry.Entry.{Entry}
use Rattle.hv_history.specs.declared.state.Transaction.{Transaction}
use Rattle.hv_history.specs.State.{State, numbered, meaning, state_of}
use Rattle.hv_history.specs.Legal.{IsLegal, IsRunning, HasAsked, is_started, profile}
use Rattle.hv_stands.specs.Running.{AreOf}
use Rattle.hv_law_next.specs.Next.{needs_id, comes_before, due, carried_on}
use Rattle.hv_law_next.specs.Order.{AreSteady, AllInOrder}

abbrev pub started_of : Option Transaction → Bool
started_of None = false
started_of (Some transaction) = is_started transaction

-- each of these entries of a transaction comes before its hold
abbrev pub AreBefore : Option Stage → ℕ → List Entry → List Entry → Type 0
AreBefore hold txn book [] = Unit {0}
AreBefore hold txn book (event ∷ more) =
    (comes_before hold (started_of (numbered (state_of book).transactions txn)) event ≡ true) × AreBefore hold txn (book ++ event ∷ []) more

-- behind the store's last opening stands more than the loss of transactions
abbrev pub IsRunningStore : State → Type 0
IsRunningStore state = state.openings.only_lost ≡ false

-- A transaction of the book goes on by these entries, up to its hold or its end: no device fails and
-- memory is found, they are legal behind the book and in order, and come before the hold; none that does is left.
pub record GoesOnBy (hold : Option Stage) (txn : ℕ) (book added : List Entry) : Type 0 where
  pub running : IsRunningStore (state_of book)
  pub there : (transaction : Transaction) × (numbered (state_of book).transactions txn ≡ Some transaction)
  pub legal : IsLegal profile (book ++ added)
  pub of_it : AreOf txn added
  pub steady : AreSteady added
  pub in_order : AllInOrder (state_of book) added
  pub before : AreBefore hold txn book added
  pub no_more : due hold (state_of (book ++ added)) txn ≡ None

abbrev pub CarriesOn : Type 0
CarriesOn = (hold : Option Stage) (txn : ℕ) (book added : List Entry) → GoesOnBy hold txn book added → carried_on hold txn book ≡ book ++ added

-- ---- where a statement is held

abbrev pub IsUnrefused : Option Meaning → Type 0
IsUnrefused (Some (Refused why)) = ⊥
IsUnrefused meaning = Unit {0}

-- nothing is left of it but its end at the commit
abbrev pub IsToCommit : List (ℕ × ℕ) → Option Meaning → Type 0
IsToCommit given (Some (Refused why)) = ⊥
IsToCommit given (Some (Twice region row)) = ⊥
IsToCommit given (Some RowLimit) = ⊥
IsToCommit given (Some PartitionLimit) = ⊥
IsToCommit given (Some (Change info effect)) = needs_id given (Some (Change info effect)) ≡ false
IsToCommit given meaning = Unit {0}

-- a started statement of these write ids, which means this, is at its hold: nothing of it that comes before is left
abbrev pub IsAtHold : Option Stage → List (ℕ × ℕ) → Option Meaning → Type 0
IsAtHold None given meaning = ⊥
IsAtHold (Some stage.Read) given meaning = IsUnrefused meaning
IsAtHold (Some stage.Commit) given meaning = IsToCommit given meaning
IsAtHold (Some other) given meaning = Unit {0}

-- and where its commit is held it has asked for all aborts that its text lists
abbrev pub HasAskedAt : Option Stage → State → ℕ → Transaction → Type 0
HasAskedAt (Some stage.Commit) state txn transaction = HasAsked state txn transaction (meaning transaction)
HasAskedAt hold state txn transaction = Unit {0}

abbrev pub StaysAtHold : Type 0
StaysAtHold =
    (hold : Option Stage) (state : State) (txn : ℕ) (transaction : Transaction) → numbered state.transactions txn ≡ Some transaction
    → IsRunning transaction → IsAtHold hold transaction.given (meaning transaction) → HasAskedAt hold state txn transaction → due hold state txn ≡ None
