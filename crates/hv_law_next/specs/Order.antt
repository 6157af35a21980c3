-- What of a statement's way no legal book fixes: that no device fails and memory is found, and in which order its entries come.
use Rattle.std.specs.Prelude.{◌≡◌, ℕ, true, false, Option, Some, None, List, [], ◌∷◌}
use Rattle.std.specs.List.{AllByRecursion}
use Rattle.hv_base.specs.declared.ids.TableId.{TableId}
use Rattle.hv_logic.specs.declared.meaning.Meaning.{Meaning}
use Rattle.hv_logic.specs.declared.meaning.Meaning.TheVariants.{Change, Plain}
use Rattle.hv_history.specs.declared.entry.Entry.{Entry}
use Rattle.hv_history.specs.declared.entry.Entry.TheVariants as entry
use Rattle.hv_history.specs.declared.entry.Cause.{Cause}
use Rattle.hv_history.specs.declared.entry.Cause.TheVariants as cause
use Rattle.hv_history.specs.declared.state.Transaction.{Transaction}
use Rattle.hv_history.specs.Asking.{asked_by}
use Rattle.hv_history.specs.State.{State, meaning, after}
use Rattle.hv_history.specs.Legal.{Of, is_started, locks_of, first_holder}
use Rattle.hv_law_next.specs.Next.{needs_id}

-- ---- no fault

-- no abort for want of memory or for a fault of the store
abbrev pub IsFaultless : Cause → Type 0
IsFaultless cause.Memory = ⊥
IsFaultless (cause.ReadFault count) = ⊥
IsFaultless (cause.WriteFault count) = ⊥
IsFaultless (cause.Damaged place) = ⊥
IsFaultless why = Unit {0}

abbrev pub IsSteady : Entry → Type 0
IsSteady (entry.Abort txn why) = IsFaultless why
IsSteady event = Unit {0}

abbrev pub AreSteady : List Entry → Type 0
AreSteady book = AllByRecursion IsSteady book

-- ---- in the order of a statement's way

-- the table that a meaning changes
abbrev pub IsOfTable : TableId → Option Meaning → Type 0
IsOfTable table (Some (Change info effect)) = table ≡ info.table
IsOfTable table _ = ⊥

-- an id is asked for by a change of rows, in its table
pub record AsksForId (table : TableId) (transaction : Transaction) : Type 0 where
  pub needs : needs_id transaction.given (meaning transaction) ≡ true
  pub of_table : IsOfTable table (meaning transaction)

-- a conflict is met at the commit, so behind the write id of a change of rows
abbrev pub HasItsId : Transaction → Type 0
HasItsId transaction = needs_id transaction.given (meaning transaction) ≡ false

-- a lock that stands against a statement comes before the want of room
abbrev pub IsUnheld : State → Transaction → Type 0
IsUnheld state transaction = is_started transaction ≡ false → first_holder (locks_of transaction) 1 state.transactions ≡ None

-- an abort is asked for by a statement that comes to nothing else, and is the first that it has left to ask for
pub record AsksInOrder (state : State) (txn own : ℕ) (asker : Transaction) : Type 0 where
  pub plain : meaning asker ≡ Some Plain
  pub first : asked_by state own asker ≡ Some txn

abbrev pub CauseInOrder : State → ℕ → Cause → Transaction → Type 0
CauseInOrder state txn (cause.Conflict by_ table partition) transaction = HasItsId transaction
CauseInOrder state txn (cause.Request by_) transaction = Of state by_.0 (AsksInOrder state txn by_.0)
CauseInOrder state txn cause.Full transaction = IsUnheld state transaction
CauseInOrder state txn why transaction = Unit {0}

abbrev pub IsInOrder : State → Entry → Type 0
IsInOrder state (entry.Given txn table write) = Of state txn.0 (AsksForId table)
IsInOrder state (entry.Abort txn why) = Of state txn.0 (CauseInOrder state txn.0 why)
IsInOrder state event = Unit {0}

abbrev pub AllInOrder : State → List Entry → Type 0
AllInOrder state [] = Unit {0}
AllInOrder state (event ∷ book) = IsInOrder state event × AllInOrder (after state event) book
