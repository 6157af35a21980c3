-- What is counted of files that are read, and what is told where they don't have as many records as commits say.
use Rattle.std.specs.Prelude.{◌≡◌, ◌⊎◌, ℕ, Bool, true, Option, List, [], ◌∷◌, length, map}
use Rattle.std.specs.List.{AllByRecursion}
use Rattle.hv_base.specs.Told.{Tells}
use Rattle.hv_shelf.specs.declared.place.Place.{Place}
use Rattle.hv_shelf.specs.Disk.{Store, Tree}
use Rattle.hv_logic.specs.declared.catalog.TableInfo.{TableInfo}
use Rattle.hv_wids.specs.WriteIds.{WriteIds}
use Rattle.hv_history.specs.declared.entry.FilePlace.{FilePlace}
use Rattle.hv_choosing.specs.declared.listing.DirFile.{DirFile}
use Rattle.hv_rowfile.specs.declared.record.Rec.{Rec}
use Rattle.hv_rowfile.specs.Layout.{file_spelling}
use Rattle.hv_table_rows.specs.Reading.{Sheet, sheet_file, IsSheet, Reads, IsSpoiled as IsSpoiledOf}
use Rattle.hv_table_rows.specs.Damage.{told_place, IsOneDamaged}
use Rattle.hv_law_dues.specs.hv_counts.specs.declared.counted.Counted.{Counted}
use Rattle.hv_law_dues.specs.hv_counts.specs.declared.due.Due.{Due}
use Rattle.hv_law_dues.specs.hv_counts.specs.Counts.{AreOwn, IsCounted}
use Rattle.hv_law_dues.specs.hv_counts.specs.Miscounts.{counted_of, IsMiscounted}
use Rattle.hv_law_dues.specs.hv_counts.specs.Files.{IsUncounted}
use Rattle.hv_table_reader.specs.declared.fault.RowFault.{RowFault}
use Rattle.hv_table_reader.specs.declared.fault.RowFault.TheVariants as fault

-- how many records a file of a kind has, and how many bytes
abbrev pub counted_at : Bool → Place → List Rec → Counted
counted_at deletes place recs = record { rows = length recs; bytes = length (file_spelling deletes place.bucket recs) }

abbrev pub counted_in : Bool → Sheet → List Counted
counted_in deletes sheet = counted_of deletes sheet ∷ []

-- of a table's files of a kind, so much was counted
pub record CountsUpTo (o : Option Store) (deletes : Bool) (taken : List DirFile) (counts : List Counted) : Type 0 where
  pub many : length counts ≡ length taken
  pub reads : Tells o (λ s. Reads deletes s.tree taken (counted_in deletes) counts)

-- where damage is told, these files don't have as many records, and it is what is told of them
abbrev pub TellsUncounted : Bool → ℕ → List Due → List Sheet → RowFault → Type 0
TellsUncounted deletes table dues sheets (fault.Damaged told) =
    (place : Place) × (told ≡ told_place place told.at) × IsMiscounted deletes table dues sheets place told.at
TellsUncounted deletes table dues sheets (fault.House why) = Unit {0}

-- ---- the files of a kind that are taken

-- they were read, and have as many records as commits say, where that is asked
pub record HasKindCounts (deletes : Bool) (files : Tree) (taken : List DirFile) (asked : Bool)
    (dues : List Due) : Type 0 where
  pub sheets : List Sheet
  pub files_are : map sheet_file sheets ≡ taken
  pub each : AllByRecursion (IsSheet deletes files) sheets
  pub counted : AreOwn taken → asked ≡ true → IsCounted deletes dues sheets

-- what commits say of a table, and whether it is asked
pub record DuesAsked : Type 0 where
  pub asked : Bool
  pub dues : List Due

abbrev pub dues_if : Bool → List Due → DuesAsked
dues_if asked dues = record { asked = asked; dues = dues }

-- they were read and haven't, and it is what is told of them
pub record IsKindUncounted (deletes : Bool) (table : ℕ) (files : Tree) (taken : List DirFile) (said : DuesAsked)
    (told : FilePlace) : Type 0 where
  pub sheets : List Sheet
  pub files_are : map sheet_file sheets ≡ taken
  pub each : AllByRecursion (IsSheet deletes files) sheets
  pub asks : said.asked ≡ true
  pub place : Place
  pub place_is : told ≡ told_place place told.at
  pub miscounted : IsMiscounted deletes table said.dues sheets place told.at

-- where damage is told of counts, they were asked
abbrev pub IsOfAsked : Bool → RowFault → Type 0
IsOfAsked asked (fault.Damaged told) = asked ≡ true
IsOfAsked asked (fault.House why) = Unit {0}

-- where damage is told, one of them doesn't stand, or they don't have as many records
abbrev pub TellsKind : Bool → ℕ → Tree → List DirFile → DuesAsked → RowFault → Type 0
TellsKind deletes table files taken said (fault.Damaged told) =
    IsOneDamaged deletes files taken told ⊎ IsKindUncounted deletes table files taken said told
TellsKind deletes table files taken said (fault.House why) = Unit {0}

-- ---- the files of a table's partitions that are wanted

abbrev pub IsAmissOf : (List ℕ → Bool) → TableInfo → WriteIds → Tree → List Due → Type 0
IsAmissOf wants info list files dues = IsSpoiledOf info list files ⊎ IsUncounted wants info list files dues
