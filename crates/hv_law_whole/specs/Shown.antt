-- What the files of a book with compactions show: to an open transaction the rows of its snapshot, to whoever comes next those of
-- the book's end, and to a job at work those up to its watermark.
use Rattle.std.specs.Prelude.{◌≡◌, ℕ, ◌<◌, true, Some, List, [], ◌∷◌, IsTrue}
use Rattle.std.specs.List.{AllByRecursion}
use Rattle.hv_base.specs.declared.ids.RowId.{RowId}
use Rattle.hv_base.specs.Sorting.{rising_by}
use Rattle.hv_shelf.specs.Disk as disk
use Rattle.hv_logic.specs.declared.effect.Found.{Found}
use Rattle.hv_dirs.specs.Choice.{sight_of}
use Rattle.hv_dirs.specs.Names.{write_end}
use Rattle.hv_history.specs.declared.entry.Entry.{Entry}
use Rattle.hv_history.specs.declared.state.Snapshot.{Snapshot}
use Rattle.hv_history.specs.declared.state.Table.{Table}
use Rattle.hv_history.specs.declared.state.Transaction.{Transaction}
use Rattle.hv_history.specs.State as book
use Rattle.hv_history.specs.State.{Job}
use Rattle.hv_history.specs.Legal.{profile, is_open, is_working, AllTruthful, AllFit}
use Rattle.hv_history.specs.Jobs.{is_job_of, pieces_for}
use Rattle.hv_earlier.specs.Lists as earlier
use Rattle.hv_law_visible.specs.Members.{IsIn}
use Rattle.hv_law_visible.specs.History.{Write}
use Rattle.hv_law_visible.specs.Visible.{Tree, visible_rows, by_id}
use Rattle.hv_law_visible.specs.Snapshots.{list_up_to}
use Rattle.hv_law_published.specs.State.{State, IsKept}
use Rattle.hv_law_directories.specs.hv_law_partitions.specs.Partitions.{id_of, rows_of, writes_in}
use Rattle.hv_law_directories.specs.hv_law_partitions.specs.States.{partition_in}
use Rattle.hv_law_directories.specs.Reading.{Reading, IsReading}
use Rattle.hv_law_directories.specs.Directories.{AreDirectories}
use Rattle.hv_law_made.specs.Made.{rows_up_to}
use Rattle.hv_law_made.specs.Standing.{Standing}
use Rattle.hv_law_whole.specs.Whole.{published_in}

-- All entries of a book fit, the files that stand are those that it makes, and these are the directories of a partition of one of its
-- live tables.
pub record AreOfBook (read : Reading) (entries : List Entry) (table : Table) (partition : List ℕ) (files : disk.Tree) (tree : Tree Found) : Type 0 where
  pub reads : IsReading read
  pub fit : AllFit profile book.nothing_yet entries
  pub few : (book.state_of entries).entries < write_end
  pub stand : Standing (book.state_of entries) files
  pub here : book.numbered (book.state_of entries).tables table.info.table.0 ≡ Some table
  pub live : table.is_live ≡ true
  pub directories : AreDirectories read table.info partition files tree

-- the partition with what is published of it
abbrev pub partition_with : List Entry → ℕ → List ℕ → Tree Found → State Found
partition_with entries table partition tree =
    record (partition_in entries table partition tree) { jobs = published_in (book.state_of entries) table partition }

-- So all holds of it that commits, aborts, publications and removals keep.
abbrev pub PartitionsAreKept : Type 0
PartitionsAreKept =
    (read : Reading) (entries : List Entry) (table : Table) (partition : List ℕ) (files : disk.Tree) (tree : Tree Found)
    → AreOfBook read entries table partition files tree → IsKept id_of (partition_with entries table.info.table.0 partition tree)

-- An open transaction reads the rows of its snapshot, in their order.
abbrev pub ReadersAreShown : Type 0
ReadersAreShown =
    (read : Reading) (entries : List Entry) (table : Table) (partition : List ℕ) (files : disk.Tree) (tree : Tree Found)
    (txn : ℕ) (transaction : Transaction) (snapshot : Snapshot)
    → AreOfBook read entries table partition files tree
    → book.numbered (book.state_of entries).transactions txn ≡ Some transaction → IsTrue (is_open transaction) → transaction.snapshot ≡ Some snapshot
    → rising_by (by_id id_of) (visible_rows id_of (sight_of (earlier.list_at entries snapshot.place table.info.table.0)) tree)
    ≡ rows_of partition (book.content_in (book.numbered snapshot.tables table.info.table.0))

-- Whoever comes next reads those of the end.
abbrev pub TheEndIsShown : Type 0
TheEndIsShown =
    (read : Reading) (entries : List Entry) (table : Table) (partition : List ℕ) (files : disk.Tree) (tree : Tree Found)
    → AreOfBook read entries table partition files tree
    → rising_by (by_id id_of) (visible_rows id_of (sight_of (earlier.list_at entries (book.state_of entries).entries table.info.table.0)) tree)
    ≡ rows_of partition (book.content (book.state_of entries) table.info.table.0)

-- A job at work reads what is left of the writes up to its watermark.
abbrev pub JobsReadUpToMark : Type 0
JobsReadUpToMark =
    (read : Reading) (entries : List Entry) (table : Table) (partition : List ℕ) (files : disk.Tree) (tree : Tree Found)
    (number mark : ℕ) (job : Job)
    → AreOfBook read entries table partition files tree
    → book.numbered (book.state_of entries).jobs number ≡ Some job → is_job_of table.info.table.0 partition job ≡ true
    → is_working job ≡ true → job.watermark ≡ Some mark
    → rising_by (by_id id_of)
    (visible_rows id_of (sight_of (list_up_to mark (earlier.list_at entries (book.state_of entries).entries table.info.table.0))) tree)
    ≡ rows_of partition (rows_up_to table.writes mark)

-- The greatest of them that touched its partition, as commits say, is the end of its range: where they say the truth, it reads what is
-- left up to that end.
abbrev pub JobsAreShown : Type 0
JobsAreShown =
    (read : Reading) (entries : List Entry) (table : Table) (partition : List ℕ) (files : disk.Tree) (tree : Tree Found)
    (number mark : ℕ) (job : Job)
    → AreOfBook read entries table partition files tree → AllTruthful book.nothing_yet entries
    → book.numbered (book.state_of entries).jobs number ≡ Some job → is_job_of table.info.table.0 partition job ≡ true
    → is_working job ≡ true → job.watermark ≡ Some mark
    → rising_by (by_id id_of)
    (visible_rows id_of (sight_of (list_up_to mark (earlier.list_at entries (book.state_of entries).entries table.info.table.0))) tree)
    ≡ rows_of partition (rows_up_to table.writes (pieces_for (book.state_of entries) job).high)

-- ---- each row is deleted once

-- no write of this one deletes a row that one of these deletes
abbrev pub DeletesOthers : Write Found → Write Found → Type 0
DeletesOthers before later = (id : RowId) → IsIn id before.deletes → IsIn id later.deletes → ⊥

abbrev pub AreDeletedOnce : List (Write Found) → Type 0
AreDeletedOnce [] = Unit {0}
AreDeletedOnce (w ∷ writes) = AllByRecursion (DeletesOthers w) writes × AreDeletedOnce writes

-- A later commit that deletes where an earlier one did has its snapshot behind that (it would conflict else), and so the row wasn't there.
-- What a job gathers of delete deltas is then all that its range says, each record once.
abbrev pub RowsGoOnce : Type 0
RowsGoOnce =
    (entries : List Entry) (table : ℕ) (partition : List ℕ) → AllFit profile book.nothing_yet entries → AllTruthful book.nothing_yet entries
    → AreDeletedOnce (writes_in (book.state_of entries) table partition)
