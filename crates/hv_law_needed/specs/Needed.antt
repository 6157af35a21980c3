-- What a reader needs: nobody takes a directory that a compaction covers with a mark at most the reader's own number, whoever else is
-- open, and a compaction at work takes none that a published one covers.
-- Source: Hive Transactions, compactor and cleaner.
use Rattle.std.specs.Prelude.{◌≡◌, ℕ, ◌≤◌, Some, List, ◌++◌}
use Rattle.hv_base.specs.declared.ids.RowId.{RowId}
use Rattle.hv_dirs.specs.Choice.{sight_of}
use Rattle.hv_law_visible.specs.Members.{IsIn}
use Rattle.hv_law_visible.specs.History.{Write, Compaction, end_of, mark_of}
use Rattle.hv_law_visible.specs.Visible.{Tree}
use Rattle.hv_law_visible.specs.Stands.{IsSound, Stands}
use Rattle.hv_law_visible.specs.Snapshots.{Fate, Committed, fate_of, list_at, list_up_to, IsUndone, IsSince}
use Rattle.hv_law_visible.specs.Readers.{Reader, IsPast, Knows}
use Rattle.hv_law_visible.specs.Laws.{TakesNoLoose}

-- of those that came before it: their marks are at most its number
abbrev pub IsBefore : Reader → Compaction → Type 0
IsBefore reader job = mark_of job ≤ reader.txn

-- every one
abbrev pub IsAny : Compaction → Type 0
IsAny job = Unit {0}

-- An open snapshot's reader takes nothing that a compaction covers which came before it, also where others that are open keep that.
abbrev pub AReaderTakesWhatItNeeds : Type 0 → Type 0
AReaderTakesWhatItNeeds Found =
    (id_of : Found → RowId) (most next : ℕ) (open_txns : List ℕ) (fates : List Fate) (readers : List Reader) (reader : Reader)
    (writes since : List (Write Found)) (jobs : List Compaction) (tree : Tree Found)
    → Knows fates jobs next open_txns readers → IsIn reader readers → IsSince reader.before fates writes since
    → IsSound id_of most (writes ++ since) jobs
    → Stands id_of (IsPast open_txns) (IsUndone fates) (writes ++ since) jobs tree
    → TakesNoLoose (sight_of (list_at reader.before)) (IsBefore reader) jobs tree

-- A compaction at work takes nothing that any published one of its partition covers: these all end at or below its watermark.
abbrev pub AJobTakesWhatItNeeds : Type 0 → Type 0
AJobTakesWhatItNeeds Found =
    (id_of : Found → RowId) (most next watermark : ℕ) (open_txns : List ℕ) (fates : List Fate) (readers : List Reader)
    (writes : List (Write Found)) (jobs : List Compaction) (tree : Tree Found)
    → Knows fates jobs next open_txns readers
    → ((w : Write Found) → IsIn w writes → fate_of fates w.write ≡ Some Committed)
    → ((job : Compaction) → IsIn job jobs → end_of job ≤ watermark)
    → IsSound id_of most writes jobs
    → Stands id_of (IsPast open_txns) (IsUndone fates) writes jobs tree
    → TakesNoLoose (sight_of (list_up_to watermark (list_at fates))) IsAny jobs tree

-- And so does the reader that comes next, of the end of the book.
abbrev pub TheEndTakesWhatItNeeds : Type 0 → Type 0
TheEndTakesWhatItNeeds Found =
    (id_of : Found → RowId) (most next : ℕ) (open_txns : List ℕ) (fates : List Fate) (readers : List Reader)
    (writes : List (Write Found)) (jobs : List Compaction) (tree : Tree Found)
    → Knows fates jobs next open_txns readers
    → ((w : Write Found) → IsIn w writes → fate_of fates w.write ≡ Some Committed)
    → IsSound id_of most writes jobs
    → Stands id_of (IsPast open_txns) (IsUndone fates) writes jobs tree
    → TakesNoLoose (sight_of (list_at fates)) IsAny jobs tree
