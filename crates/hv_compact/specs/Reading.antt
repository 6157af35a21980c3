-- What is read of a job's files.
use Rattle.std.specs.Prelude.{◌≡◌, ℕ, Bool, List, [], ◌∷◌, ◌++◌}
use Rattle.std.specs.List.{AllByRecursion}
use Rattle.std.specs.Global.{Vec}
use Rattle.hv_base.specs.declared.ids.JobId.{JobId}
use Rattle.hv_shelf.specs.declared.place.Place.{Place}
use Rattle.hv_rowfile.specs.declared.record.Rec.{Rec}
use Rattle.hv_rowfile.specs.Layout.{IsFile}
use Rattle.hv_choosing.specs.declared.listing.DirFile.{DirFile}
use Rattle.hv_history.specs.declared.entry.JobCause.{JobCause}
use Rattle.hv_history.specs.declared.entry.JobCause.TheVariants as cause
use Rattle.hv_law_visible.specs.Members.{IsIn}
use Rattle.hv_table_rows.specs.Faults.{IsShort}
use Rattle.hv_table_rows.specs.Damage.{told_place}
use Rattle.hv_trail.specs.declared.trail.TrailItem.{TrailItem}
use Rattle.hv_compact.specs.declared.fault.Stop.{Stop}
use Rattle.hv_compact.specs.declared.fault.Stop.TheVariants as stop
use Rattle.hv_compact.specs.Gathering.{StandsWhile}

-- memory lacked
abbrev pub lacking : Stop
lacking = stop.GiveUp cause.Memory

-- the file at that place is damaged, whose names are short enough for an entry; or memory lacked
abbrev pub IsSpoiltBy : Place → JobCause → Type 0
IsSpoiltBy place (cause.Damaged found) = IsShort found.partition found.dir × ((at : ℕ) × (found ≡ told_place place at))
IsSpoiltBy place cause.Memory = Unit {0}
IsSpoiltBy place why = ⊥

abbrev pub IsSpoilt : Place → Stop → Type 0
IsSpoilt place (stop.GiveUp why) = IsSpoiltBy place why
IsSpoilt place (stop.Run why) = ⊥

-- each is a file of that kind and bucket
abbrev pub AreFilesOf : Bool → ℕ → List (List Rec) → Type 0
AreFilesOf deletes bucket files = AllByRecursion (IsFile deletes bucket) files

pub record ReadsOne (deletes : Bool) (bucket : ℕ) (before now : List (Vec Rec)) : Type 0 where
  pub recs : Vec Rec
  pub file : IsFile deletes bucket recs.items
  pub kept : now ≡ before ++ recs ∷ []

-- each of these stands with its records while the job works
abbrev pub ReadsEach : List TrailItem → JobId → Bool → (DirFile → List Rec) → List DirFile → Type 0
ReadsEach trail job deletes recs_of files = (file : DirFile) → IsIn file files
    → StandsWhile trail job file.place deletes (recs_of file)
