-- The laws of what a partition's directories show.
use Rattle.std.specs.Prelude.{◌≡◌, ◌↔◌, ℕ, ◌+◌, ◌<◌, ◌≤◌, nat_le, ◌&&◌, Some, List, ◌∷◌, ◌++◌, filter}
use Rattle.hv_base.specs.declared.ids.RowId.{RowId}
use Rattle.hv_wids.specs.WriteIds.{WriteIds, IsInOrder, is_valid, is_valid_base}
use Rattle.hv_dirs.specs.Choice.{Sight, sight_of, Delta}
use Rattle.hv_base.specs.Sorting.{sorted_by, rising_by}
use Rattle.hv_law_visible.specs.Members.{IsIn}
use Rattle.hv_law_visible.specs.History.{Write, Compaction, end_of, mark_of, content_of, is_upto}
use Rattle.hv_law_visible.specs.Visible.{Tree, visible_rows, writes_shown, by_id, base_chosen, deltas_chosen, deletes_chosen}
use Rattle.hv_law_visible.specs.Stands.{IsSound, HasDistinctRows, Fits, IsLoose, IsLooseBase, Stands}
use Rattle.hv_law_visible.specs.Snapshots.{Fate, Open, Committed, fate_of, is_seen, all_ended, list_at, list_up_to, GoesTo, IsUndone, HaveEnded, IsSince}
use Rattle.hv_law_visible.specs.Readers.{Reader, IsPast, Knows}

-- the directories show these rows under a list
pub record ShowsRows {Found : Type 0} (id_of : Found → RowId) (sight : Sight) (tree : Tree Found) (rows : List Found) : Type 0 where
  -- each by itself
  pub each : (found : Found) → IsIn found (visible_rows id_of sight tree) ↔ IsIn found rows
  -- and as one list, rising by identifier
  pub whole : rising_by (by_id id_of) (visible_rows id_of sight tree) ≡ sorted_by (by_id id_of) rows

-- Under a list that fits the history the directories that stand show the content of the writes that the list shows.
abbrev pub ShowsContent : Type 0 → Type 0
ShowsContent Found =
    (id_of : Found → RowId) (most : ℕ) (sight : Sight) (open_txns : List ℕ) (fates : List Fate) (writes : List (Write Found)) (jobs : List Compaction) (tree : Tree Found)
    → IsSound id_of most writes jobs → HasDistinctRows id_of writes
    → Fits sight (IsPast open_txns) (IsUndone fates) writes jobs
    → Stands id_of (IsPast open_txns) (IsUndone fates) writes jobs tree
    → ShowsRows id_of sight tree (content_of id_of (writes_shown sight writes))

-- Under the list of an open snapshot they show the content at the snapshot, whatever was committed, compacted and
-- removed since.
abbrev pub SnapshotShowsContent : Type 0 → Type 0
SnapshotShowsContent Found =
    (id_of : Found → RowId) (most next : ℕ) (open_txns : List ℕ) (fates : List Fate) (readers : List Reader) (reader : Reader)
    (writes since : List (Write Found)) (jobs : List Compaction) (tree : Tree Found)
    → Knows fates jobs next open_txns readers → IsIn reader readers → IsSince reader.before fates writes since
    → IsSound id_of most (writes ++ since) jobs → HasDistinctRows id_of (writes ++ since)
    → Stands id_of (IsPast open_txns) (IsUndone fates) (writes ++ since) jobs tree
    → ShowsRows id_of (sight_of (list_at reader.before)) tree (content_of id_of writes)

-- Under the list of a compaction, which ends at its watermark, they show the content of the committed writes up to there.
abbrev pub CompactionShowsContent : Type 0 → Type 0
CompactionShowsContent Found =
    (id_of : Found → RowId) (most next watermark : ℕ) (open_txns : List ℕ) (fates : List Fate) (readers : List Reader)
    (writes : List (Write Found)) (jobs : List Compaction) (tree : Tree Found)
    → Knows fates jobs next open_txns readers
    → ((w : Write Found) → IsIn w writes → fate_of fates w.write ≡ Some Committed)
    → ((job : Compaction) → IsIn job jobs → IsPast open_txns job → end_of job ≤ watermark)
    → IsSound id_of most writes jobs → HasDistinctRows id_of writes
    → Stands id_of (IsPast open_txns) (IsUndone fates) writes jobs tree
    → ShowsRows id_of (sight_of (list_up_to watermark (list_at fates))) tree (content_of id_of (filter (is_upto watermark) writes))

-- no reader takes a directory that may be gone
pub record TakesNoLoose {Found : Type 0} (sight : Sight) (past : Compaction → Type 0) (jobs : List Compaction) (tree : Tree Found) : Type 0 where
  pub deltas : (d : Delta) → IsIn d (deltas_chosen sight tree) → IsLoose past jobs d → ⊥
  pub delete_deltas : (d : Delta) → IsIn d (deletes_chosen sight tree) → IsLoose past jobs d → ⊥
  pub base : IsLooseBase past jobs (base_chosen sight tree) → ⊥

abbrev pub ChoosesNoLoose : Type 0 → Type 0
ChoosesNoLoose Found =
    (id_of : Found → RowId) (most : ℕ) (sight : Sight) (open_txns : List ℕ) (fates : List Fate) (writes : List (Write Found)) (jobs : List Compaction) (tree : Tree Found)
    → IsSound id_of most writes jobs
    → Fits sight (IsPast open_txns) (IsUndone fates) writes jobs
    → Stands id_of (IsPast open_txns) (IsUndone fates) writes jobs tree
    → TakesNoLoose sight (IsPast open_txns) jobs tree

-- ---- lists

-- the list of a place of the book says what the fates of its ids say there
pub record SaysFates (fates : List Fate) (list : WriteIds) : Type 0 where
  pub order : IsInOrder list
  pub valid : (write : ℕ) → 1 ≤ write → is_valid list write ≡ is_seen (fate_of fates write)
  pub base : (high : ℕ) → is_valid_base list high ≡ all_ended high fates

-- a list up to a watermark says the same, of what is up to there
pub record SaysUpTo (watermark : ℕ) (list cut : WriteIds) : Type 0 where
  pub order : IsInOrder list → IsInOrder cut
  pub valid : (write : ℕ) → is_valid cut write ≡ (nat_le write watermark && is_valid list write)
  pub base : (high : ℕ) → is_valid_base cut high ≡ (nat_le high watermark && is_valid_base list high)

-- ---- what each entry of the book keeps

-- what the book knows of its readers and compactions stays so
pub record StaysKnown : Type 0 where
  -- an id is given, a transaction that has ids commits or aborts, an aborted id is forgotten
  pub going : (before now : List Fate) (jobs : List Compaction) (next : ℕ) (open_txns : List ℕ) (readers : List Reader)
      → Knows before jobs next open_txns readers → ((write : ℕ) → GoesTo (fate_of before write) (fate_of now write))
      → Knows now jobs next open_txns readers
  -- a transaction is opened
  pub opening : (fates : List Fate) (jobs : List Compaction) (next : ℕ) (open_txns : List ℕ) (readers : List Reader)
      → Knows fates jobs next open_txns readers → Knows fates jobs (next + 1) (next ∷ open_txns) readers
  -- an open one starts
  pub starting : (fates : List Fate) (jobs : List Compaction) (next txn : ℕ) (open_txns : List ℕ) (readers : List Reader)
      → Knows fates jobs next open_txns readers → IsIn txn open_txns
      → Knows fates jobs next open_txns (record { txn = txn; before = fates } ∷ readers)
  -- some end
  pub ending : (fates : List Fate) (jobs : List Compaction) (next : ℕ) (open_txns fewer_txns : List ℕ) (readers fewer : List Reader)
      → Knows fates jobs next open_txns readers → ((txn : ℕ) → IsIn txn fewer_txns → IsIn txn open_txns)
      → ((reader : Reader) → IsIn reader fewer → IsIn reader readers × IsIn reader.txn fewer_txns)
      → Knows fates jobs next fewer_txns fewer
  -- a compaction of ids that have ended is published, with the next transaction as its mark
  pub publishing : (fates : List Fate) (jobs : List Compaction) (job : Compaction) (next : ℕ) (open_txns : List ℕ) (readers : List Reader)
      → Knows fates jobs next open_txns readers → HaveEnded fates (end_of job) → mark_of job ≡ next
      → Knows fates (job ∷ jobs) next open_txns readers
  -- and an id that is open is above every compaction
  pub undecided : (fates : List Fate) (jobs : List Compaction) (next : ℕ) (open_txns : List ℕ) (readers : List Reader) (write : ℕ)
      → Knows fates jobs next open_txns readers → 1 ≤ write → fate_of fates write ≡ Some Open
      → (job : Compaction) → IsIn job jobs → end_of job < write

-- and so does what a snapshot is to the book, where ids that were open are committed
abbrev pub StaysSince : Type 0 → Type 0
StaysSince Found =
    (before then now : List Fate) (writes since more : List (Write Found))
    → IsSince before then writes since → ((write : ℕ) → GoesTo (fate_of then write) (fate_of now write))
    → ((w : Write Found) → IsIn w more → (fate_of then w.write ≡ Some Open) × (fate_of now w.write ≡ Some Committed))
    → IsSince before now writes (since ++ more)
