-- A partition of a book as the laws on compaction speak of one, and what a reader sees of it.
use Rattle.std.specs.Prelude.{if◌then◌else◌, ◌≡◌, ◌↔◌, ℕ, ◌+◌, IsTrue, Option, Some, None, List, [], ◌∷◌, ◌++◌, length, take}
use Rattle.hv_base.specs.declared.ids.Limits.{Limits}
use Rattle.hv_dirs.specs.Choice.{sight_of}
use Rattle.hv_base.specs.Sorting.{rising_by}
use Rattle.hv_logic.specs.declared.effect.Found.{Found}
use Rattle.hv_history.specs.declared.entry.Entry.{Entry}
use Rattle.hv_history.specs.declared.state.Snapshot.{Snapshot}
use Rattle.hv_history.specs.declared.state.Transaction.{Transaction}
use Rattle.hv_history.specs.State as book
use Rattle.hv_history.specs.Legal.{AllFit, is_open}
use Rattle.hv_earlier.specs.Lists as earlier
use Rattle.hv_law_visible.specs.Members.{IsIn}
use Rattle.hv_law_visible.specs.History.{Write}
use Rattle.hv_law_visible.specs.Visible.{Tree, visible_rows, by_id}
use Rattle.hv_law_visible.specs.Stands.{Stands}
use Rattle.hv_law_visible.specs.Snapshots.{IsUndone}
use Rattle.hv_law_visible.specs.Readers.{Reader, IsPast}
use Rattle.hv_law_published.specs.State.{State, IsKept}
use Rattle.hv_law_published.specs.Laws.{IsWrittenBy}
use Rattle.hv_law_partitions.specs.Partitions.{id_of, rows_of, writes_in, fates_in}

-- the numbers of the transactions that are open, where the first one's is given
abbrev pub open_from : ℕ → List Transaction → List ℕ
open_from n [] = []
open_from n (t ∷ ts) = if is_open t then n ∷ open_from (n + 1) ts else open_from (n + 1) ts

-- one that has started reads under the list at its snapshot
abbrev pub reader_by : List Entry → ℕ → ℕ → Option Snapshot → List Reader
reader_by entries table n None = []
reader_by entries table n (Some snapshot) =
    record { txn = n; before = fates_in (book.state_of (take snapshot.place entries)) table } ∷ []

abbrev pub readers_from : List Entry → ℕ → ℕ → List Transaction → List Reader
readers_from entries table n [] = []
readers_from entries table n (t ∷ ts) =
    if is_open t then reader_by entries table n t.snapshot ++ readers_from entries table (n + 1) ts else readers_from entries table (n + 1) ts

-- a partition at the end of a book, with what stands of it, of which nothing is published
abbrev pub partition_in : List Entry → ℕ → List ℕ → Tree Found → State Found
partition_in entries table partition tree = record {
  fates = fates_in (book.state_of entries) table;
  writes = writes_in (book.state_of entries) table partition;
  jobs = [];
  next = length (book.state_of entries).transactions + 1;
  open_txns = open_from 1 (book.state_of entries).transactions;
  readers = readers_from entries table 1 (book.state_of entries).transactions;
  tree = tree;
}

-- Where its directories stand, all holds of it that a publication and a removal keep.
abbrev pub PartitionsAreKept : Type 0
PartitionsAreKept =
    (limits : Limits) (entries : List Entry) (table : ℕ) (partition : List ℕ) (tree : Tree Found) → AllFit limits book.nothing_yet entries
    → Stands id_of (IsPast (open_from 1 (book.state_of entries).transactions)) (IsUndone (fates_in (book.state_of entries) table))
    (writes_in (book.state_of entries) table partition) [] tree
    → IsKept id_of (partition_in entries table partition tree)

-- It is that partition, whatever is published of it and whichever directories stand.
pub record IsPartitionOf (entries : List Entry) (table : ℕ) (partition : List ℕ) (state : State Found) : Type 0 where
  pub fates : state.fates ≡ fates_in (book.state_of entries) table
  pub writes : state.writes ≡ writes_in (book.state_of entries) table partition
  pub readers : state.readers ≡ readers_from entries table 1 (book.state_of entries).transactions

-- Then an open transaction reads just the rows of the partition that stood in the table at its snapshot.
abbrev pub ReadersSeeTheirContent : Type 0
ReadersSeeTheirContent =
    (limits : Limits) (entries : List Entry) (table : ℕ) (partition : List ℕ) (state : State Found) (txn : ℕ) (transaction : Transaction) (snapshot : Snapshot) (found : Found)
    → AllFit limits book.nothing_yet entries → IsPartitionOf entries table partition state → IsKept id_of state
    → book.numbered (book.state_of entries).transactions txn ≡ Some transaction → IsTrue (is_open transaction) → transaction.snapshot ≡ Some snapshot
    → IsIn found (visible_rows id_of (sight_of (earlier.list_at entries snapshot.place table)) state.tree)
    ↔ (IsIn found (book.content (book.state_of (take snapshot.place entries)) table) × (found.partition ≡ partition))

-- And as one list, in the order in which they stood.
abbrev pub ReadersSeeItInOrder : Type 0
ReadersSeeItInOrder =
    (limits : Limits) (entries : List Entry) (table : ℕ) (partition : List ℕ) (state : State Found) (txn : ℕ) (transaction : Transaction) (snapshot : Snapshot)
    → AllFit limits book.nothing_yet entries → IsPartitionOf entries table partition state → IsKept id_of state
    → book.numbered (book.state_of entries).transactions txn ≡ Some transaction → IsTrue (is_open transaction) → transaction.snapshot ≡ Some snapshot
    → rising_by (by_id id_of) (visible_rows id_of (sight_of (earlier.list_at entries snapshot.place table)) state.tree)
    ≡ rows_of partition (book.content (book.state_of (take snapshot.place entries)) table)

-- What a transaction wrote in the partition is what the law on commits asks of it.
abbrev pub WritesAreOfTheirIds : Type 0
WritesAreOfTheirIds =
    (limits : Limits) (entries : List Entry) (table : ℕ) (partition : List ℕ) (w : Write Found) → AllFit limits book.nothing_yet entries
    → IsIn w (writes_in (book.state_of entries) table partition) → IsWrittenBy id_of w.write (w ∷ [])
