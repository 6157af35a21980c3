-- Entries of jobs take few bytes.
use Rattle.std.proofs.Common.{ℕ, ◌≤◌, List, length, arith}
use Rattle.std.proofs.lemmas.List.{length-append}
use Rattle.hv_base.specs.declared.ids.JobId.{JobId}
use Rattle.hv_base.specs.declared.ids.TableId.{TableId}
use Rattle.hv_base.specs.declared.ids.WriteId.{WriteId}
use Rattle.hv_bytes.proofs.Lengths.{length-four, length-eight, length-text}
use Rattle.hv_history.specs.declared.entry.Entry.TheVariants as entry
use Rattle.hv_history.specs.declared.entry.JobKind.{JobKind}
use Rattle.hv_history.specs.declared.entry.JobKind.TheVariants.{Minor, Major}
use Rattle.hv_history.specs.Spelling.{entry_spelling}

pub short_asked : (job : JobId) (table : TableId) (partition : List ℕ) (kind : JobKind) (by : ℕ) → length partition ≤ 240
    → length (entry_spelling (entry.Asked job table partition kind by)) ≤ 65536
short_asked job table partition Minor by short = grind (arith, length-append, length-four, length-eight, length-text)
short_asked job table partition Major by short = grind (arith, length-append, length-four, length-eight, length-text)

pub short_picked : (job : JobId) (mark : WriteId) → length (entry_spelling (entry.Picked job mark)) ≤ 65536
short_picked job mark = grind (arith, length-append, length-eight)

pub short_empty : (job : JobId) → length (entry_spelling (entry.Empty job)) ≤ 65536
short_empty job = grind (arith, length-append, length-eight)

pub short_cleaned : (job : JobId) → length (entry_spelling (entry.Cleaned job)) ≤ 65536
short_cleaned job = grind (arith, length-append, length-eight)

pub short_forgot : (table : TableId) (write : WriteId) → length (entry_spelling (entry.Forgot table write)) ≤ 65536
short_forgot table write = grind (arith, length-append, length-eight)
