-- Among own directories alone all those of valid write ids are taken.
use Rattle.std.specs.Prelude.{◌≡◌, Bool, true, List}
use Rattle.std.specs.List.{AllByRecursion}
use Rattle.hv_wids.specs.WriteIds.{WriteIds, is_valid}
use Rattle.hv_law_visible.specs.Members.{IsIn}
use Rattle.hv_choosing.specs.declared.dir.Dir.{Dir}
use Rattle.hv_choosing.specs.declared.dir.Dir.TheVariants.{Base, Own, Wide}
use Rattle.hv_choosing.specs.declared.listing.DirFile.{DirFile}
use Rattle.hv_choosing.specs.Listing.{IsNamed}
use Rattle.hv_choosing.specs.Taken.{files_taken}

abbrev pub IsOwnDir : Dir → Type 0
IsOwnDir (Base high) = ⊥
IsOwnDir (Own deletes write statement) = Unit {0}
IsOwnDir (Wide deletes low high) = ⊥

abbrev pub IsOwnFile : DirFile → Type 0
IsOwnFile file = IsOwnDir file.dir

-- an own directory of a kind, of a valid write id
abbrev pub IsValidOwn : Bool → WriteIds → Dir → Type 0
IsValidOwn deletes list (Base high) = ⊥
IsValidOwn deletes list (Own kind write statement) = (kind ≡ deletes) × (is_valid list write.0 ≡ true)
IsValidOwn deletes list (Wide kind low high) = ⊥

pub record TakesOwn (deletes : Bool) (list : WriteIds) (files : List DirFile) : Type 0 where
  pub each : (file : DirFile) → IsIn file files → IsValidOwn deletes list file.dir → IsIn file (files_taken deletes list files)
  pub only : (file : DirFile) → IsIn file (files_taken deletes list files) → IsIn file files × IsValidOwn deletes list file.dir

abbrev pub OwnFilesAreTaken : Type 0
OwnFilesAreTaken =
    (deletes : Bool) (list : WriteIds) (files : List DirFile) → AllByRecursion IsNamed files → AllByRecursion IsOwnFile files → TakesOwn deletes list files
