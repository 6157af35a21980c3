-- Who goes before a transaction that waits for its Start. The book is the queue: a lock is asked for by an Opened, in their order.
-- Source: Hive Transactions (DbLockManager: locks are granted in the order in which they were asked for).
use Rattle.std.specs.Prelude.{◌≡◌, ℕ, ◌+◌, Bool, false, ◌&&◌, ◌||◌, nat_lt, if◌then◌else◌, Option, Some, None, List, [], ◌∷◌}
use Rattle.hv_base.specs.declared.ids.TxnId.{TxnId}
use Rattle.hv_locks.specs.declared.table.Lock.{Lock}
use Rattle.hv_history.specs.declared.state.Transaction.{Transaction}
use Rattle.hv_history.specs.State.{State, numbered}
use Rattle.hv_history.specs.Legal.{Of, IsWaiting, is_open, is_started, locks_of, locks_conflict}
use Rattle.hv_trail.specs.declared.trail.TrailItem.{TrailItem}
use Rattle.hv_trail.specs.Trail.{state_at}

-- an open transaction of this number goes before one of its own number that waits: it has started, or was opened before that
abbrev pub goes_first : ℕ → ℕ → Transaction → Bool
goes_first own number transaction = is_open transaction && (is_started transaction || nat_lt number own)

-- and stands in its way, where its locks conflict with these
abbrev pub goes_ahead : ℕ → List Lock → ℕ → Transaction → Bool
goes_ahead own locks number transaction =
    goes_first own number transaction && locks_conflict locks (locks_of transaction)

-- the first of these transactions that does, by its number, where the first one's is given
abbrev pub first_ahead : ℕ → List Lock → ℕ → List Transaction → Option ℕ
first_ahead own locks number [] = None
first_ahead own locks number (transaction ∷ transactions) =
    if goes_ahead own locks number transaction then Some number
    else first_ahead own locks (number + 1) transactions

-- the same of the transaction of that number, where there is one
abbrev pub first_at : ℕ → ℕ → Option Transaction → Bool
first_at own number None = false
first_at own number (Some transaction) = goes_first own number transaction

abbrev pub ahead_at : ℕ → List Lock → ℕ → Option Transaction → Bool
ahead_at own locks number None = false
ahead_at own locks number (Some transaction) = goes_ahead own locks number transaction

unfoldable pub ahead_among : ℕ → List Lock → List Transaction → ℕ → Bool
ahead_among own locks transactions number = ahead_at own locks number (numbered transactions number)

-- it waits, and this is the lowest open transaction whose locks conflict with its own and that goes before it
pub record IsBehind (state : State) (own by : ℕ) (transaction : Transaction) : Type 0 where
  pub waiting : IsWaiting transaction
  pub first : first_ahead own (locks_of transaction) 1 state.transactions ≡ Some by

abbrev pub IsInWay : List TrailItem → TxnId → TxnId → Type 0
IsInWay trail txn by = Of (state_at trail) txn.0 (IsBehind (state_at trail) txn.0 by.0)

-- nobody does
abbrev pub IsFree : List TrailItem → TxnId → Type 0
IsFree trail txn = (by : TxnId) → IsInWay trail txn by → ⊥

-- the number of one that was found, where it waits
abbrev pub numbered_one : Option ℕ → Option TxnId
numbered_one None = None
numbered_one (Some number) = Some (record { 0 = number })

abbrev pub where_waiting : Bool → Option ℕ → Option TxnId
where_waiting waits first = if waits then numbered_one first else None
