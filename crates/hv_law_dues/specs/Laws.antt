-- What commits say of their rows is what they wrote, and what stands in their files.
use Rattle.std.specs.Prelude.{◌≡◌, ℕ, Bool, false, Some, List, map, take}
use Rattle.std.specs.List.{AllByRecursion}
use Rattle.hv_shelf.specs.Disk.{Tree, places_of}
use Rattle.hv_logic.specs.declared.catalog.Shape.{Shape}
use Rattle.hv_logic.specs.declared.catalog.TableInfo.{TableInfo}
use Rattle.hv_logic.specs.declared.effect.Effect.{Effect}
use Rattle.hv_route.specs.Routes.{files_of}
use Rattle.hv_route.specs.Touching.{touches_of}
use Rattle.hv_history.specs.declared.entry.Entry.{Entry}
use Rattle.hv_history.specs.declared.state.Table.{Table}
use Rattle.hv_history.specs.State.{state_of, numbered}
use Rattle.hv_history.specs.Legal.{profile, IsLegal}
use Rattle.hv_earlier.specs.Lists.{list_at}
use Rattle.hv_choosing.specs.declared.listing.DirFile.{DirFile}
use Rattle.hv_choosing.specs.Listing.{AreListed}
use Rattle.hv_choosing.specs.Taken.{files_taken}
use Rattle.hv_table_rows.specs.Reading.{Sheet, sheet_file, IsSheet, files_wanted}
use Rattle.hv_law_read.specs.Reading.{ReadsAt}
use Rattle.hv_counts.specs.Counts.{dues_in, dues_wanted, due_sum, IsCounted, AreOwn}
use Rattle.hv_law_dues.specs.Counting.{rows_in, changed_rows, touched_in, recorded_in, written_sum}

-- the touches of a change say of each partition how many of its rows are inserted there, and how many deleted
abbrev pub TouchesCountRows : Type 0
TouchesCountRows =
    (info : TableInfo) (write statement : ℕ) (effect : Effect) (deletes : Bool) (partition : List ℕ)
    → touched_in deletes partition (touches_of info effect) ≡ rows_in partition (changed_rows info.shape write statement effect deletes)

-- the files of a change have so many records there
abbrev pub FilesCountRows : Type 0
FilesCountRows =
    (shape : Shape) (write statement : ℕ) (effect : Effect) (deletes : Bool) (partition : List ℕ)
    → recorded_in deletes partition (files_of shape write statement effect) ≡ rows_in partition (changed_rows shape write statement effect deletes)

-- Of each table, write id and partition the commits of a legal book say how many rows the table's write of that id has there: none
-- where it has no such write.
abbrev pub DuesCountWrites : Type 0
DuesCountWrites =
    (book : List Entry) (number : ℕ) (table : Table) → IsLegal profile book → numbered (state_of book).tables number ≡ Some table
    → (deletes : Bool) (write : ℕ) (partition : List ℕ)
    → due_sum deletes write partition (dues_in (state_of book) number) ≡ written_sum deletes write partition table.writes

-- Where an open transaction reads a live table of a legal book, and all files that it takes of a kind and of the rows stand in own directories,
-- they have just the records that the commits before its snapshot say. A base or a wide delta doesn't say what was written by each, and where
-- a base is taken it takes no deletes of what that covers.
abbrev pub FilesAreCounted : Type 0
FilesAreCounted =
    (book : List Entry) (txn place : ℕ) (table : Table) (files : Tree) → IsLegal profile book → ReadsAt book txn place table files
    → (deletes : Bool) (named : List DirFile) (sheets : List Sheet)
    → AreListed (places_of table.info.table files) named → map sheet_file sheets ≡ files_taken deletes (list_at book place table.info.table.0) named
    → AllByRecursion (IsSheet deletes files) sheets
    → AreOwn (files_taken deletes (list_at book place table.info.table.0) named) → AreOwn (files_taken false (list_at book place table.info.table.0) named)
    → IsCounted deletes (dues_in (state_of (take place book)) table.info.table.0) sheets

-- So too of the partitions that are wanted, where the files of these alone are read.
abbrev pub WantedFilesAreCounted : Type 0
WantedFilesAreCounted =
    (book : List Entry) (txn place : ℕ) (table : Table) (files : Tree) → IsLegal profile book → ReadsAt book txn place table files
    → (wants : List ℕ → Bool) (deletes : Bool) (named : List DirFile) (sheets : List Sheet)
    → AreListed (places_of table.info.table files) named
    → map sheet_file sheets ≡ files_wanted wants (files_taken deletes (list_at book place table.info.table.0) named)
    → AllByRecursion (IsSheet deletes files) sheets
    → AreOwn (files_taken deletes (list_at book place table.info.table.0) named) → AreOwn (files_taken false (list_at book place table.info.table.0) named)
    → IsCounted deletes (dues_wanted wants (dues_in (state_of (take place book)) table.info.table.0)) sheets
