-- The files of a book with its compactions, as the directories of a partition: each that the book makes is needed by nobody any more,
-- or it stands whole, over all its buckets; and what else stands are own ones of write ids that aren't committed.
-- Source: Hive Transactions, base and delta directories, compactor, and cleaner.
use Rattle.std.specs.Prelude.{◌≡◌, ℕ, true, Option, Some, None, List, [], ◌∷◌}
use Rattle.std.specs.List.{flat_map, AllByRecursion}
use Rattle.hv_shelf.specs.Disk as disk
use Rattle.hv_logic.specs.declared.effect.Found.{Found}
use Rattle.hv_route.specs.Routes.{partition_of}
use Rattle.hv_history.specs.declared.entry.JobKind.{JobKind}
use Rattle.hv_history.specs.declared.entry.JobKind.TheVariants as kind
use Rattle.hv_history.specs.declared.state.Table.{Table}
use Rattle.hv_history.specs.declared.state.Written.{Written}
use Rattle.hv_history.specs.State.{State, Job, numbered}
use Rattle.hv_law_directories.specs.hv_stands.specs.Files.{IsSaid}
use Rattle.hv_history.specs.Jobs.{jobs_of}
use Rattle.hv_law_made.specs.Named.{HasNames}
use Rattle.hv_law_made.specs.Standing.{Standing}
use Rattle.hv_law_visible.specs.History.{Compaction, Minor, Major}
use Rattle.hv_law_visible.specs.Visible.{Tree}
use Rattle.hv_law_visible.specs.Members.{IsIn}
use Rattle.hv_law_visible.specs.Stands.{Stands}
use Rattle.hv_law_visible.specs.Snapshots.{IsUndone}
use Rattle.hv_law_visible.specs.Readers.{IsPast}
use Rattle.hv_law_directories.specs.hv_law_partitions.specs.Partitions.{id_of, writes_in, fates_in}
use Rattle.hv_law_directories.specs.hv_law_partitions.specs.States.{open_from}
use Rattle.hv_law_directories.specs.Reading.{Reading, IsReading}
use Rattle.hv_law_directories.specs.Directories.{AreDirectories}

-- ---- the published compactions of a partition, as the laws on directories speak of them

abbrev pub compaction_of : JobKind → ℕ × ℕ × ℕ → Compaction
compaction_of kind.Minor range = Minor range.0 range.1 range.2
compaction_of kind.Major range = Major range.1 range.2

abbrev pub compactions_by : JobKind → Option (ℕ × ℕ × ℕ) → List Compaction
compactions_by kind None = []
compactions_by kind (Some range) = compaction_of kind range ∷ []

abbrev pub compactions_of : Job → List Compaction
compactions_of job = compactions_by job.kind job.published

abbrev pub published_among : List Job → List Compaction
published_among jobs = flat_map compactions_of jobs

abbrev pub published_in : State → ℕ → List ℕ → List Compaction
published_in state table partition = published_among (jobs_of table partition state.jobs)

-- ---- rows are read again

-- an inserted row is said by its file and the text of its partition
pub record IsStored (table : Table) (found : Found) : Type 0 where
  pub said : IsSaid table.info.shape found
  pub partition_is : found.partition ≡ partition_of table.info.shape found.row

pub record IsStoredWrite (table : Table) (written : Written) : Type 0 where
  pub each : (found : Found) → IsIn found written.inserts → IsStored table found

-- ---- the law

-- the files stand for the book, and these are the directories of a partition of one of its live tables
pub record IsPartOf (read : Reading) (state : State) (table : Table) (partition : List ℕ) (files : disk.Tree) (tree : Tree Found) : Type 0 where
  pub reads : IsReading read
  pub standing : Standing state files
  pub here : numbered state.tables table.info.table.0 ≡ Some table
  pub live : table.is_live ≡ true
  pub names : HasNames state table
  pub stored : AllByRecursion (IsStoredWrite table) table.writes
  pub directories : AreDirectories read table.info partition files tree

-- Then they stand.
abbrev pub FilesAreWhole : Type 0
FilesAreWhole =
    (read : Reading) (state : State) (table : Table) (partition : List ℕ) (files : disk.Tree) (tree : Tree Found)
    → IsPartOf read state table partition files tree
    → Stands id_of (IsPast (open_from 1 state.transactions)) (IsUndone (fates_in state table.info.table.0))
    (writes_in state table.info.table.0 partition) (published_in state table.info.table.0 partition) tree
