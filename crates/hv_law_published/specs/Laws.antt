-- What a commit, a compaction, a removal and an aborted write do to the directories that must stand.
use Rattle.std.specs.Prelude.{◌≡◌, ◌≢◌, ◌↔◌, ℕ, ◌+◌, ◌<◌, ◌≤◌, nat_le, Bool, ◌&&◌, Option, Some, None, List, [], ◌∷◌, ◌++◌, filter}
use Rattle.std.specs.List.{flat_map}
use Rattle.hv_base.specs.declared.ids.RowId.{RowId}
use Rattle.hv_wids.specs.WriteIds.{WriteIds}
use Rattle.hv_dirs.specs.Choice.{Sight, sight_of, Wide}
use Rattle.hv_base.specs.Sorting.{rising_by}
use Rattle.hv_law_visible.specs.Members.{IsIn}
use Rattle.hv_law_visible.specs.History.{Write, Compaction, Minor, Major, end_of, mark_of, write_of, content_of, inserts_in, deletes_in, rows_in}
use Rattle.hv_law_visible.specs.Visible.{Tree, base_chosen, deltas_chosen, deletes_chosen, visible_rows, writes_shown, by_id}
use Rattle.hv_law_visible.specs.Stands.{HasDistinctRows}
use Rattle.hv_law_visible.specs.Snapshots.{Fate, Open, Committed, Aborted, Forgotten, fate_of, list_at, list_up_to, GoesTo, IsUndone, HaveEnded}
use Rattle.hv_law_visible.specs.Readers.{Reader}
use Rattle.hv_law_visible.specs.Laws.{ShowsRows}
use Rattle.hv_law_published.specs.State.{State, IsKept, ReachesPast, IsOpenList}
use Rattle.hv_law_published.specs.Directories.{Directory, StandsIn, IsChosenIn, ChangesTree, Loses, HasOwn, IsOwnOf, IsMadeBy, HasMade, IsMadeDir, IsLooseDir, IsRetired}

-- two trees show the same rows under a list
pub record ShowsAlike {Found : Type 0} (id_of : Found → RowId) (sight : Sight) (tree now : Tree Found) : Type 0 where
  -- each by itself
  pub each : (found : Found) → IsIn found (visible_rows id_of sight tree) ↔ IsIn found (visible_rows id_of sight now)
  -- and as one list, rising by identifier
  pub whole : rising_by (by_id id_of) (visible_rows id_of sight tree) ≡ rising_by (by_id id_of) (visible_rows id_of sight now)

-- what holds always holds on, and no list under which somebody may read before and after shows other rows
pub record Keeps {Found : Type 0} (id_of : Found → RowId) (state now : State Found) : Type 0 where
  pub kept : IsKept id_of now
  pub alike : (list : WriteIds) → IsOpenList state list → IsOpenList now list → ShowsAlike id_of (sight_of list) state.tree now.tree

-- ---- at the beginning: a partition of which nothing stands and nothing is written, whatever its table's write ids are

abbrev pub ANewPartitionIsKept : Type 0 → Type 0
ANewPartitionIsKept Found =
    (id_of : Found → RowId) (fates : List Fate) (next : ℕ) (open_txns : List ℕ) (readers : List Reader) (tree : Tree Found)
    → ((txn : ℕ) → IsIn txn open_txns → txn < next)
    → ((reader : Reader) → IsIn reader readers → IsIn reader.txn open_txns × ((write : ℕ) → GoesTo (fate_of reader.before write) (fate_of fates write)))
    → tree.bases ≡ [] → tree.deltas ≡ [] → tree.delete_deltas ≡ []
    → IsKept id_of (record { fates = fates; writes = []; jobs = []; next = next; open_txns = open_txns; readers = readers; tree = tree })

-- ---- what is shown

abbrev pub AnOpenListShowsContent : Type 0 → Type 0
AnOpenListShowsContent Found =
    (id_of : Found → RowId) (state : State Found) (list : WriteIds)
    → IsKept id_of state → IsOpenList state list
    → ShowsRows id_of (sight_of list) state.tree (content_of id_of (writes_shown (sight_of list) state.writes))

-- ---- transactions end

-- what one write id has come to changes, and that of no other one
pub record Turns (id : ℕ) (before : Option Fate) (after : Fate) (fates now : List Fate) : Type 0 where
  pub was : fate_of fates id ≡ before
  pub is : fate_of now id ≡ Some after
  pub others : (write : ℕ) → write ≢ id → fate_of now write ≡ fate_of fates write

-- a transaction ends that has a write id in the table
pub record Ends {Found : Type 0} (id : ℕ) (fate : Fate) (state : State Found) (fates : List Fate) (open_txns : List ℕ) (readers : List Reader) : Type 0 where
  pub turns : Turns id (Some Open) fate state.fates fates
  pub txns : (txn : ℕ) → IsIn txn open_txns → IsIn txn state.open_txns
  pub snapshots : (reader : Reader) → IsIn reader readers → IsIn reader state.readers × IsIn reader.txn open_txns

-- what a transaction wrote in the partition: inserted rows carry its write id, deleted ones this or an earlier one
pub record IsWrittenBy {Found : Type 0} (id_of : Found → RowId) (id : ℕ) (more : List (Write Found)) : Type 0 where
  pub one : (w : Write Found) → IsIn w more → w.write ≡ id
  pub carried : (w : Write Found) (found : Found) → IsIn w more → IsIn found w.inserts → write_of (id_of found) ≡ id
  pub earlier : (w : Write Found) (deleted : RowId) → IsIn w more → IsIn deleted w.deletes → write_of deleted ≤ id
  pub distinct : HasDistinctRows id_of more

-- A write commits while its own directories hold just its records.
abbrev pub ACommitKeeps : Type 0 → Type 0
ACommitKeeps Found =
    (id_of : Found → RowId) (state : State Found) (id : ℕ) (more : List (Write Found)) (fates : List Fate) (open_txns : List ℕ) (readers : List Reader)
    → IsKept id_of state
    → Ends id Committed state fates open_txns readers → IsWrittenBy id_of id more → HasOwn id more state.tree
    → Keeps id_of state (record state { fates = fates; writes = state.writes ++ more; open_txns = open_txns; readers = readers })

-- While its id is open, and when it has aborted, what stands in its own directories may be anything.
pub record AnAbortedWriteKeeps (Found : Type 0) : Type 0 where
  -- it puts files, or they go
  pub anything : (id_of : Found → RowId) (state : State Found) (id : ℕ) (tree : Tree Found)
      → IsKept id_of state → IsUndone state.fates id → ChangesTree (IsOwnOf id) state.tree tree
      → Keeps id_of state (record state { tree = tree })
  -- no list shows them
  pub unseen : (id_of : Found → RowId) (state : State Found) (id : ℕ) (list : WriteIds) (dir : Directory)
      → IsKept id_of state → IsUndone state.fates id → IsOpenList state list → IsOwnOf id dir
      → IsChosenIn (sight_of list) state.tree dir → ⊥
  -- it aborts
  pub aborting : (id_of : Found → RowId) (state : State Found) (id : ℕ) (fates : List Fate) (open_txns : List ℕ) (readers : List Reader)
      → IsKept id_of state → Ends id Aborted state fates open_txns readers
      → Keeps id_of state (record state { fates = fates; open_txns = open_txns; readers = readers })

-- The other entries that speak of transactions and of write ids, of which none commits a write or publishes anything.
pub record EachOtherEntryKeeps (Found : Type 0) : Type 0 where
  -- a transaction is opened
  pub opening : (id_of : Found → RowId) (state : State Found)
      → IsKept id_of state → Keeps id_of state (record state { next = state.next + 1; open_txns = state.next ∷ state.open_txns })
  -- one starts, which is its snapshot
  pub starting : (id_of : Found → RowId) (state : State Found) (txn : ℕ)
      → IsKept id_of state → IsIn txn state.open_txns
      → Keeps id_of state (record state { readers = record { txn = txn; before = state.fates } ∷ state.readers })
  -- a write id is given
  pub giving : (id_of : Found → RowId) (state : State Found) (id : ℕ) (fates : List Fate)
      → IsKept id_of state → Turns id None Open state.fates fates
      → Keeps id_of state (record state { fates = fates })
  -- transactions end that have no write id in the table
  pub ending : (id_of : Found → RowId) (state : State Found) (open_txns : List ℕ) (readers : List Reader)
      → IsKept id_of state → ((txn : ℕ) → IsIn txn open_txns → IsIn txn state.open_txns)
      → ((reader : Reader) → IsIn reader readers → IsIn reader state.readers × IsIn reader.txn open_txns)
      → Keeps id_of state (record state { open_txns = open_txns; readers = readers })
  -- an aborted write id is forgotten, of which no directory stands
  pub forgetting : (id_of : Found → RowId) (state : State Found) (id : ℕ) (fates : List Fate)
      → IsKept id_of state → Turns id (Some Aborted) Forgotten state.fates fates
      → ((dir : Directory) → IsOwnOf id dir → StandsIn state.tree dir → ⊥)
      → Keeps id_of state (record state { fates = fates })

-- ---- compactions

-- its range is one of ids that have ended, and its mark is the transaction that is opened next
abbrev pub HasRange : Compaction → Type 0
HasRange (Minor first last mark) = (1 ≤ first) × (first ≤ last)
HasRange (Major last mark) = 1 ≤ last

-- Its directories are put under their names with just their records.
abbrev pub APublishedJobKeeps : Type 0 → Type 0
APublishedJobKeeps Found =
    (id_of : Found → RowId) (state : State Found) (job : Compaction) (tree : Tree Found)
    → IsKept id_of state
    → HasRange job → HaveEnded state.fates (end_of job) → mark_of job ≡ state.next
    → ChangesTree (IsMadeBy job) state.tree tree → HasMade id_of state.writes job tree
    → Keeps id_of state (record state { jobs = job ∷ state.jobs; tree = tree })

-- What a compaction gathers under its list, which ends at its watermark, are just the records that it has to write.
-- A minor one gathers the records of its range among those of the chosen deltas, a major one the rows that are shown.
abbrev pub working_sight : {Found : Type 0} → State Found → ℕ → Sight
working_sight state watermark = sight_of (list_up_to watermark (list_at state.fates))

abbrev pub is_within : ℕ → ℕ → ℕ → Bool
is_within first last write = nat_le first write && nat_le write last

abbrev pub inserts_gathered : {Found : Type 0} → (Found → RowId) → Sight → Tree Found → ℕ → ℕ → List Found
inserts_gathered id_of sight tree first last = filter (λ found. is_within first last (write_of (id_of found))) (flat_map tree.inserts (deltas_chosen sight tree))

abbrev pub deletes_gathered : {Found : Type 0} → Sight → Tree Found → ℕ → ℕ → List (RowId × ℕ)
deletes_gathered sight tree first last = filter (λ (deleted : RowId × ℕ). is_within first last deleted.1) (flat_map tree.deletes (deletes_chosen sight tree))

pub record AJobGathersItsRecords (Found : Type 0) : Type 0 where
  -- above the base that it reads
  pub inserts : (id_of : Found → RowId) (state : State Found) (watermark first last : ℕ)
      → IsKept id_of state → ReachesPast state watermark → last ≤ watermark → base_chosen (working_sight state watermark) state.tree < first
      → (found : Found) → IsIn found (inserts_gathered id_of (working_sight state watermark) state.tree first last) ↔ IsIn found (inserts_in state.writes (Wide first last))
  pub deletes : (id_of : Found → RowId) (state : State Found) (watermark first last : ℕ)
      → IsKept id_of state → ReachesPast state watermark → last ≤ watermark → base_chosen (working_sight state watermark) state.tree < first
      → (deleted : RowId × ℕ) → IsIn deleted (deletes_gathered (working_sight state watermark) state.tree first last) ↔ IsIn deleted (deletes_in state.writes (Wide first last))
  -- up to the last write below the watermark
  pub rows : (id_of : Found → RowId) (state : State Found) (watermark last : ℕ)
      → IsKept id_of state → ReachesPast state watermark → last ≤ watermark
      → ((w : Write Found) → IsIn w state.writes → w.write ≤ watermark → w.write ≤ last)
      → (found : Found) → IsIn found (visible_rows id_of (working_sight state watermark) state.tree) ↔ IsIn found (rows_in id_of state.writes last)

-- ---- removals

-- What is loose is retired.
abbrev pub ALooseOneIsRetired : Type 0 → Type 0
ALooseOneIsRetired Found =
    (id_of : Found → RowId) (state : State Found) (dir : Directory)
    → IsKept id_of state → IsMadeDir state dir → IsLooseDir state dir → IsRetired state dir

-- A loose directory goes, or some of its files do.
abbrev pub ARemovalKeeps : Type 0 → Type 0
ARemovalKeeps Found =
    (id_of : Found → RowId) (state : State Found) (dir : Directory) (tree : Tree Found)
    → IsKept id_of state → IsLooseDir state dir → Loses dir state.tree tree
    → Keeps id_of state (record state { tree = tree })
