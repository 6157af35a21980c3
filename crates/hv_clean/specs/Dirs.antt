-- The directories among places that a cleaner takes away.
use Rattle.std.specs.Prelude.{◌≡◌, ◌⊎◌, ℕ, Bool, true, false, List, [], ◌∷◌, ◌++◌}
use Rattle.hv_shelf.specs.declared.place.DirAt.{DirAt}
use Rattle.hv_shelf.specs.declared.place.Place.{Place}
use Rattle.hv_dirs.specs.declared.names.DirName.{DirName}
use Rattle.hv_dirs.specs.declared.names.DirName.TheVariants as dir_name
use Rattle.hv_job_acts.specs.hv_job_calls.specs.Refusals.{IsOwnText, IsStagedText}

abbrev pub dir_of_place : Place → DirAt
dir_of_place place = record { table = place.table; partition = place.partition; dir = place.dir }

abbrev pub IsOwnIf : ℕ → List ℕ → Bool → Type 0
IsOwnIf write text own = own ≡ true → IsOwnText write text

abbrev pub is_staged_name : DirName → Bool
is_staged_name (dir_name.Staged job name) = true
is_staged_name name = false

abbrev pub IsStagedIf : List ℕ → Bool → Type 0
IsStagedIf text staged = staged ≡ true → (number : ℕ) × IsStagedText number text

-- it is put behind the others, unless it is the last one
abbrev pub IsPutOnce : Place → List DirAt → List DirAt → Type 0
IsPutOnce place before now = (now ≡ before) ⊎ (now ≡ before ++ dir_of_place place ∷ [])

-- one of that table, and staged where the table is live
abbrev pub SweepsIf : ℕ → Bool → DirAt → Type 0
SweepsIf table live dir = (dir.table.0 ≡ table) × ((live ≡ false) ⊎ ((number : ℕ) × IsStagedText number dir.dir))
