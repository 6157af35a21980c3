-- Whether a transaction is open and has started, whether a job is at work, and the room that a book has: what entries of either kind rest on.
-- Source: Hive Transactions (a transaction's states); the room of a journal is this project's.
use Rattle.std.specs.Prelude.{if◌then◌else◌, ℕ, ◌+◌, ◌≤◌, ◌&&◌, Bool, not, is_none, is_some, IsTrue, IsFalse, IsSomeAnd, Option, Some, None, sum_by}
use Rattle.hv_base.specs.declared.ids.Limits.{Limits}
use Rattle.hv_history.specs.Standing.{is_open, is_started}
use Rattle.hv_history.specs.State.{State, Job, Snapshot, Transaction, numbered}

-- ---- a transaction's state

-- the transaction of that number is there, and the fact holds of it
abbrev pub Of : State → ℕ → (Transaction → Type 0) → Type 0
Of state txn P = IsSomeAnd (numbered state.transactions txn) P

pub record IsRunning (transaction : Transaction) : Type 0 where
  pub unended : IsTrue (is_open transaction)
  pub started : IsTrue (is_started transaction)

pub record IsWaiting (transaction : Transaction) : Type 0 where
  pub unended : IsTrue (is_open transaction)
  pub unstarted : IsFalse (is_started transaction)

-- the place of a transaction's snapshot, or 0
abbrev pub place_of_snapshot : Option Snapshot → ℕ
place_of_snapshot None = 0
place_of_snapshot (Some snapshot) = snapshot.place

-- the limits of this project's profile
abbrev pub profile : Limits
profile = record { entries = 131072 }

-- ---- room: an entry that asks for it fits where the load stays within the limit

-- a job that was picked and has not ended
abbrev pub is_working : Job → Bool
is_working job = is_some job.watermark && (is_none job.published && (not job.is_empty && is_none job.failure))

abbrev pub one_if : Bool → ℕ
one_if b = if b then 1 else 0

abbrev pub open_one : Transaction → ℕ
open_one transaction = one_if (is_open transaction)

abbrev pub working_one : Job → ℕ
working_one job = one_if (is_working job)

-- the entries, and the one that each open transaction and each working job still needs
abbrev pub load : State → ℕ
load state = state.entries + sum_by open_one state.transactions + sum_by working_one state.jobs

-- an entry of this kind adds so much to the load
abbrev pub HasRoom : Limits → State → ℕ → Type 0
HasRoom limits state more = load state + more ≤ limits.entries
