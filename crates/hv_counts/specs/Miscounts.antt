-- The first write id and partition of which the files that were read don't have so many records as the commits say, and what is told of it.
use Rattle.std.specs.Prelude.{◌≡◌, ◌≢◌, ◌⊎◌, ℕ, ◌+◌, Bool, true, false, Option, Some, None, List, [], ◌∷◌, ◌++◌, length, map}
use Rattle.std.specs.List.{slice_get, AllByRecursion}
use Rattle.hv_shelf.specs.declared.place.Place.{Place}
use Rattle.hv_choosing.specs.declared.dir.Dir.{Dir}
use Rattle.hv_choosing.specs.declared.dir.Dir.TheVariants.{Base, Own, Wide}
use Rattle.hv_choosing.specs.declared.listing.DirFile.{DirFile}
use Rattle.hv_rowfile.specs.Layout.{file_spelling}
use Rattle.hv_stands.specs.Files.{own_place}
use Rattle.hv_table_rows.specs.Reading.{Sheet, sheet_file}
use Rattle.hv_table_rows.specs.Damage.{no_offset}
use Rattle.hv_counts.specs.declared.due.Due.{Due}
use Rattle.hv_counts.specs.declared.counted.Counted.{Counted}
use Rattle.hv_counts.specs.declared.tally.Tally.{Tally}
use Rattle.hv_counts.specs.Counts.{AreOwn, due_rows, due_sum, stored_sum, is_stored}

-- ---- what was counted

-- how many records a file of a kind has, and how many bytes
abbrev pub counted_of : Bool → Sheet → Counted
counted_of deletes sheet = record { rows = length sheet.recs; bytes = length (file_spelling deletes sheet.file.place.bucket sheet.recs) }

-- these files were read, and so much was counted
pub record AreCounted (deletes : Bool) (files : List DirFile) (counts : List Counted) (sheets : List Sheet) : Type 0 where
  pub files_are : map sheet_file sheets ≡ files
  pub counts_are : map (counted_of deletes) sheets ≡ counts

abbrev pub is_own : Dir → Bool
is_own (Base high) = false
is_own (Own deletes write statement) = true
is_own (Wide deletes low high) = false

abbrev pub is_own_file : DirFile → Bool
is_own_file file = is_own file.dir

-- the write id of an own directory
abbrev pub own_write : Dir → Option ℕ
own_write (Base high) = None
own_write (Own deletes write statement) = Some write.0
own_write (Wide deletes low high) = None

-- ---- beside each other

abbrev pub file_tally_of : Option ℕ → ℕ → DirFile → Counted → List Tally
file_tally_of None number file counted = []
file_tally_of (Some write) number file counted =
    record { write = write; partition = file.place.partition; file = number; stored = counted.rows; due = 0 } ∷ []

-- a file in an own directory, of this number
abbrev pub file_tally : ℕ → DirFile → Counted → List Tally
file_tally number file counted = file_tally_of (own_write file.dir) number file counted

-- these files, numbered from this one on
abbrev pub file_tallies : ℕ → List DirFile → List Counted → List Tally
file_tallies number [] counts = []
file_tallies number (file ∷ files) [] = []
file_tallies number (file ∷ files) (counted ∷ counts) = file_tally number file counted ++ file_tallies (number + 1) files counts

abbrev pub due_tally : Bool → Due → Tally
due_tally deletes due = record { write = due.write; partition = due.partition; file = 0; stored = 0; due = due_rows deletes due }

-- ---- what is told

-- the last of the files that stand, of a write id in a partition, with its length
pub record IsLastFile (deletes : Bool) (sheets : List Sheet) (write : ℕ) (place : Place) (at : ℕ) : Type 0 where
  pub before : List Sheet
  pub last : Sheet
  pub behind : List Sheet
  pub sheets_are : sheets ≡ before ++ last ∷ behind
  pub stored : is_stored write place.partition last.file ≡ true
  pub none_behind : AllByRecursion (λ (sheet : Sheet). is_stored write place.partition sheet.file ≡ false) behind
  pub place_is : place ≡ last.file.place
  pub at_is : at ≡ length (file_spelling deletes place.bucket last.recs)

-- none stands there: the first bucket of the own directory, with the greatest offset
pub record HasNoFile (deletes : Bool) (table : ℕ) (sheets : List Sheet) (write : ℕ) (place : Place) (at : ℕ) : Type 0 where
  pub none : AllByRecursion (λ (sheet : Sheet). is_stored write place.partition sheet.file ≡ false) sheets
  pub place_is : place ≡ own_place table place.partition deletes write 0
  pub at_is : at ≡ no_offset

-- the file of this number stands there, and so long it is
pub record IsFileAt (files : List DirFile) (counts : List Counted) (n : ℕ) (place : Place) (at : ℕ) : Type 0 where
  pub file : DirFile
  pub file_is : slice_get files n ≡ Some file
  pub counted : Counted
  pub counted_is : slice_get counts n ≡ Some counted
  pub place_is : place ≡ file.place
  pub at_is : at ≡ counted.bytes

-- Each file stands in an own directory, and the files of a write id in a partition don't have so many records as the commits say. The
-- place is that of the last of them that stands.
pub record IsMiscounted (deletes : Bool) (table : ℕ) (dues : List Due) (sheets : List Sheet) (place : Place) (at : ℕ) : Type 0 where
  pub own : AreOwn (map sheet_file sheets)
  pub write : ℕ
  pub differ : stored_sum write place.partition sheets ≢ due_sum deletes write place.partition dues
  pub told : IsLastFile deletes sheets write place at ⊎ HasNoFile deletes table sheets write place at
