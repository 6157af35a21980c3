-- The directories of any files, and what is read of a table by those that are chosen. That those of a book stand is said by hv_law_whole.
use Rattle.std.specs.Prelude.{true, Bool, ◌≡◌, ℕ, List}
use Rattle.hv_shelf.specs.Disk as disk
use Rattle.hv_shelf.specs.Disk.{places_of}
use Rattle.hv_logic.specs.declared.catalog.TableInfo.{TableInfo}
use Rattle.hv_logic.specs.declared.effect.Found.{Found}
use Rattle.hv_dirs.specs.Choice.{sight_of}
use Rattle.hv_choosing.specs.declared.listing.DirFile.{DirFile}
use Rattle.hv_choosing.specs.Listing.{AreListed}
use Rattle.hv_wids.specs.WriteIds.{WriteIds}
use Rattle.hv_table_rows.specs.Reading.{AreOnce, AreRows}
use Rattle.hv_law_visible.specs.Visible.{Tree, visible_rows, by_id}
use Rattle.hv_law_partitions.specs.Partitions.{id_of, rows_of}
use Rattle.hv_law_directories.specs.Reading.{Reading, IsReading, file_read}
use Rattle.hv_law_directories.specs.Directories.{AreDirectories, directories_in}

-- each file can be read
abbrev pub FilesCanBeRead : Type 0
FilesCanBeRead = IsReading file_read

-- of any files, well formed or not: a listing of a table's files says which directories each partition has
abbrev pub ListedAreDirectories : Type 0
ListedAreDirectories =
    (read : Reading) (info : TableInfo) (partition : List ℕ) (files : disk.Tree) (named : List DirFile)
    → AreListed (places_of info.table files) named → AreDirectories read info partition files (directories_in read info partition files named)

-- So each partition has some.
abbrev pub ThereAreDirectories : Type 0
ThereAreDirectories =
    (read : Reading) (info : TableInfo) (partition : List ℕ) (files : disk.Tree) → (tree : Tree Found) × AreDirectories read info partition files tree

-- ---- what is read of a table

-- Of any files: where those that are chosen in the wanted partitions of a table under a list of write ids can be read, the rows that they come to
-- are, in each of these partitions, those that its directories show, in their order, one of those of one identifier.
abbrev pub RowsAreVisible : Type 0
RowsAreVisible =
    (read : Reading) (wants : List ℕ → Bool) (info : TableInfo) (list : WriteIds) (partition : List ℕ) (files : disk.Tree) (rows : List Found)
    → IsReading read → (are : AreRows wants info list files rows) → wants partition ≡ true
    → AreOnce (by_id id_of) (visible_rows id_of (sight_of list) (directories_in read info partition files are.named)) (rows_of partition rows)
