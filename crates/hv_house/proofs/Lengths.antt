-- Entries take few bytes.
use Rattle.std.proofs.Common.{ℕ, ◌≤◌, List, length, arith}
use Rattle.std.proofs.lemmas.List.{length-append}
use Rattle.hv_base.specs.declared.ids.TxnId.{TxnId}
use Rattle.hv_base.specs.declared.ids.JobId.{JobId}
use Rattle.hv_base.specs.declared.ids.TableId.{TableId}
use Rattle.hv_base.specs.declared.ids.WriteId.{WriteId}
use Rattle.hv_history.specs.declared.entry.Entry.TheVariants as entry
use Rattle.hv_history.specs.declared.entry.Cause.TheVariants as cause
use Rattle.hv_history.specs.declared.entry.JobCause.TheVariants as job_cause
use Rattle.hv_history.specs.Spelling.{entry_spelling}
use Rattle.hv_bytes.proofs.Lengths.{length-four, length-eight, length-text}

pub short_opened : (txn : TxnId) (session : List ℕ) (number : ℕ) (said : List ℕ) → length session ≤ 32 → length said ≤ 32768
    → length (entry_spelling (entry.Opened txn session number said)) ≤ 65536
short_opened txn session number said named short = grind (arith, length-append, length-four, length-eight, length-text)

pub short_start : (txn : TxnId) (statement : ℕ) → length (entry_spelling (entry.Start txn statement)) ≤ 65536
short_start txn statement = grind (arith, length-append, length-four, length-eight)

pub short_given : (txn : TxnId) (table : TableId) (write : WriteId) → length (entry_spelling (entry.Given txn table write)) ≤ 65536
short_given txn table write = grind (arith, length-append, length-eight)

pub short_create : (txn : TxnId) (table : TableId) → length (entry_spelling (entry.Create txn table)) ≤ 65536
short_create txn table = grind (arith, length-append, length-eight)

pub short_drop : (txn : TxnId) (table : TableId) → length (entry_spelling (entry.Drop txn table)) ≤ 65536
short_drop txn table = grind (arith, length-append, length-eight)

pub short_lost : (txn : TxnId) → length (entry_spelling (entry.Abort txn cause.Lost)) ≤ 65536
short_lost txn = grind (arith, length-append, length-eight)

pub short_boot : (run : ℕ) → length (entry_spelling (entry.Boot run)) ≤ 65536
short_boot run = grind (arith, length-append, length-eight)

pub short_published : (job : JobId) (low high : WriteId) (mark : TxnId) → length (entry_spelling (entry.Published job low high mark)) ≤ 65536
short_published job low high mark = grind (arith, length-append, length-eight)

pub short_gone : (job : JobId) → length (entry_spelling (entry.Failed job job_cause.Gone)) ≤ 65536
short_gone job = grind (arith, length-append, length-eight)

-- one that an earlier run left at work
pub short_left : (job : JobId) → length (entry_spelling (entry.Failed job job_cause.Lost)) ≤ 65536
short_left job = grind (arith, length-append, length-eight)
