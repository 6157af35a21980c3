-- What the book knows of its compactions and of its open snapshots, over a table's write ids.
use Rattle.std.specs.Prelude.{ℕ, ◌≤◌, ◌<◌, List}
use Rattle.hv_law_visible.specs.Members.{IsIn}
use Rattle.hv_law_visible.specs.History.{Compaction, end_of, mark_of}
use Rattle.hv_law_visible.specs.Snapshots.{Fate, HaveEnded}

-- an open started transaction, with the fates of the table's ids at its snapshot
pub record Reader : Type 0 where
  pub txn : ℕ
  pub before : List Fate

-- past: no open transaction is below the compaction's mark
abbrev pub IsPast : List ℕ → Compaction → Type 0
IsPast open_txns job = (txn : ℕ) → IsIn txn open_txns → mark_of job ≤ txn

-- `next` is the number of the transaction that is opened next
pub record Knows (fates : List Fate) (jobs : List Compaction) (next : ℕ) (open_txns : List ℕ) (readers : List Reader) : Type 0 where
  pub jobs_ended : (job : Compaction) → IsIn job jobs → HaveEnded fates (end_of job)
  pub below : (txn : ℕ) → IsIn txn open_txns → txn < next
  pub are_open : (reader : Reader) → IsIn reader readers → IsIn reader.txn open_txns
  -- a reader that came after a compaction was published has seen the ends of all its ids
  pub seen : (reader : Reader) (job : Compaction) → IsIn reader readers → IsIn job jobs → mark_of job ≤ reader.txn → HaveEnded reader.before (end_of job)
