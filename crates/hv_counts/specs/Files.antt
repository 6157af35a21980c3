-- Whether the files that are read of a table's partitions that are wanted, by the files that are chosen under a list of its write ids,
-- have as many records as its commits say.
use Rattle.std.specs.Prelude.{◌≡◌, ℕ, Bool, false, List, map}
use Rattle.std.specs.List.{AllByRecursion}
use Rattle.hv_shelf.specs.declared.place.Place.{Place}
use Rattle.hv_shelf.specs.Disk.{Tree, places_of}
use Rattle.hv_logic.specs.declared.catalog.TableInfo.{TableInfo}
use Rattle.hv_wids.specs.WriteIds.{WriteIds}
use Rattle.hv_history.specs.declared.entry.FilePlace.{FilePlace}
use Rattle.hv_choosing.specs.declared.listing.DirFile.{DirFile}
use Rattle.hv_choosing.specs.Listing.{AreListed}
use Rattle.hv_choosing.specs.Taken.{files_taken}
use Rattle.hv_table_rows.specs.Reading.{Sheet, sheet_file, IsSheet, files_wanted}
use Rattle.hv_table_rows.specs.Damage.{told_place}
use Rattle.hv_counts.specs.declared.due.Due.{Due}
use Rattle.hv_counts.specs.Counts.{IsCounted, AreOwn, dues_wanted}
use Rattle.hv_counts.specs.Miscounts.{IsMiscounted}

-- the files of a kind that are taken of them were read
pub record AreSheets (wants : List ℕ → Bool) (deletes : Bool) (info : TableInfo) (list : WriteIds) (files : Tree)
    (sheets : List Sheet) : Type 0 where
  pub named : List DirFile
  pub listed : AreListed (places_of info.table files) named
  pub files_are : map sheet_file sheets ≡ files_wanted wants (files_taken deletes list named)
  pub each : AllByRecursion (IsSheet deletes files) sheets

-- They were read and have so many records, where all that are taken of the table stand in own directories, and the files of the rows,
-- too: a base that is taken covers deletes that aren't.
pub record HasCounts (wants : List ℕ → Bool) (deletes : Bool) (info : TableInfo) (list : WriteIds) (files : Tree)
    (dues : List Due) : Type 0 where
  pub sheets : List Sheet
  pub read : AreSheets wants deletes info list files sheets
  pub counted : AreOwn (files_taken deletes list read.named) → AreOwn (files_taken false list read.named)
      → IsCounted deletes (dues_wanted wants dues) sheets

-- those of both kinds
abbrev pub AreCountedBoth : (List ℕ → Bool) → TableInfo → WriteIds → Tree → List Due → Type 0
AreCountedBoth wants info list files dues = (deletes : Bool) → HasCounts wants deletes info list files dues

-- those of a kind were read, all stand in own directories beside rows that do, and they don't have so many records
pub record IsUncounted (wants : List ℕ → Bool) (info : TableInfo) (list : WriteIds) (files : Tree) (dues : List Due) : Type 0 where
  pub deletes : Bool
  pub sheets : List Sheet
  pub read : AreSheets wants deletes info list files sheets
  pub own : AreOwn (files_taken deletes list read.named)
  pub beside : AreOwn (files_taken false list read.named)
  pub differ : IsCounted deletes (dues_wanted wants dues) sheets → ⊥

-- what is told of them
pub record IsToldUncounted (wants : List ℕ → Bool) (info : TableInfo) (list : WriteIds) (files : Tree) (dues : List Due)
    (told : FilePlace) : Type 0 where
  pub deletes : Bool
  pub sheets : List Sheet
  pub read : AreSheets wants deletes info list files sheets
  pub own : AreOwn (files_taken deletes list read.named)
  pub beside : AreOwn (files_taken false list read.named)
  pub place : Place
  pub place_is : told ≡ told_place place told.at
  pub miscounted : IsMiscounted deletes info.table.0 (dues_wanted wants dues) sheets place told.at
