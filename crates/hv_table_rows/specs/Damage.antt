-- What is told of a damaged file: its place, and the first offset at which it isn't the one that is meant.
use Rattle.std.specs.Prelude.{◌≡◌, ◌⊎◌, ℕ, ◌-◌, ◌^◌, Bool, Option, Some, None, List, Contains}
use Rattle.std.specs.FinMap as tree
use Rattle.hv_shelf.specs.declared.place.Place.{Place}
use Rattle.hv_shelf.specs.Disk.{Tree, places_of}
use Rattle.hv_logic.specs.declared.catalog.TableInfo.{TableInfo}
use Rattle.hv_stands.specs.hv_history.specs.declared.entry.FilePlace.{FilePlace}
use Rattle.hv_wids.specs.WriteIds.{WriteIds}
use Rattle.hv_choosing.specs.declared.dir.Span.{Span}
use Rattle.hv_choosing.specs.declared.listing.DirFile.{DirFile}
use Rattle.hv_choosing.specs.Dirs.{span_of}
use Rattle.hv_choosing.specs.Listing.{AreListed}
use Rattle.hv_choosing.specs.Taken.{files_taken}
use Rattle.hv_rowfile.specs.declared.record.Rec.{Rec}
use Rattle.hv_rowfile.specs.Layout.{IsFile, IsDamagedAt, file_spelling}
use Rattle.hv_table_rows.specs.Amiss.{first_amiss}
use Rattle.hv_table_rows.specs.Reading.{LacksAt}

-- ---- where it is wrong

-- the bytes are those of a file of another kind, bucket or write id than are meant, and from this offset on they show it
pub record IsOther (deletes : Bool) (bucket : ℕ) (span : Span) (bytes : List ℕ) (at : ℕ) : Type 0 where
  pub kind : Bool
  pub other : ℕ
  pub recs : List Rec
  pub file : IsFile kind other recs
  pub bytes_are : bytes ≡ file_spelling kind other recs
  pub at_is : Some at ≡ first_amiss deletes bucket span kind other recs

-- where nothing stands, the greatest offset is told
abbrev pub no_offset : ℕ
no_offset = 2 ^ 64 - 1

-- nothing stands there, or what is no file, or another file
abbrev pub IsWrongAt : Bool → ℕ → Span → Option (List ℕ) → ℕ → Type 0
IsWrongAt deletes bucket span None at = at ≡ no_offset
IsWrongAt deletes bucket span (Some bytes) at = IsDamagedAt bytes at ⊎ IsOther deletes bucket span bytes at

-- ---- what is told

abbrev pub told_place : Place → ℕ → FilePlace
told_place place at = record { table = place.table; partition = place.partition; dir = place.dir; bucket = place.bucket; at = at }

-- the place that is told is this one, and there doesn't stand the file of a kind and of these write ids, from the offset on that is told
pub record IsDamagedFile (files : Tree) (place : Place) (deletes : Bool) (span : Span) (told : FilePlace) : Type 0 where
  pub place_is : told ≡ told_place place told.at
  pub wrong : IsWrongAt deletes place.bucket span (tree.get files place) told.at
  pub lacks : LacksAt files place deletes span

-- it is one of these files of a kind
pub record IsOneDamaged (deletes : Bool) (files : Tree) (taken : List DirFile) (told : FilePlace) : Type 0 where
  pub one : DirFile
  pub among : Contains taken one
  pub file : IsDamagedFile files one.place deletes (span_of one.dir) told

-- it is one of the files of a table that are read
pub record IsOneSpoiled (info : TableInfo) (list : WriteIds) (files : Tree) (told : FilePlace) : Type 0 where
  pub deletes : Bool
  pub named : List DirFile
  pub listed : AreListed (places_of info.table files) named
  pub one : IsOneDamaged deletes files (files_taken deletes list named) told
