-- A write id that is forgotten: its table is listed, and then that is noted.
use Rattle.std.specs.Prelude.{◌≡◌, ℕ, ◌==◌, Bool, true, false, Option, Some, None, List, Result, Ok, Err, Contains}
use Rattle.hv_base.specs.Told.{Tells}
use Rattle.hv_base.specs.declared.ids.TableId.{TableId}
use Rattle.hv_base.specs.declared.ids.WriteId.{WriteId}
use Rattle.hv_shelf.specs.declared.place.Place.{Place}
use Rattle.hv_shelf.specs.Disk.{Store}
use Rattle.hv_dirs.specs.declared.names.DirName.{DirName}
use Rattle.hv_dirs.specs.declared.names.DirName.TheVariants as dir_name
use Rattle.hv_history.specs.declared.entry.Entry.TheVariants as entry
use Rattle.hv_trail.specs.Steps.{Call, Note, Read}
use Rattle.hv_telling.specs.hv_house.specs.declared.fault.HouseFault.TheVariants as house
use Rattle.hv_job_calls.specs.declared.fault.JobFault.{JobFault}
use Rattle.hv_job_calls.specs.declared.fault.JobFault.TheVariants as fault
use Rattle.hv_job_calls.specs.Refusals.{IsOwnText, IsListedOwn}
use Rattle.hv_job_calls.specs.Steps.{call_behind}

-- where its listing failed nothing else was done
abbrev pub forget_call : TableId → WriteId → Result (Unit {0}) JobFault → Call
forget_call table write (Ok x) = Note (entry.Forgot table write)
forget_call table write (Err (fault.House (house.Failed count))) = Read None
forget_call table write (Err why) = call_behind (Note (entry.Forgot table write)) why

-- the name is an own one of that id
abbrev pub is_own_named : ℕ → DirName → Bool
is_own_named write (dir_name.Base high) = false
is_own_named write (dir_name.Own deletes other statement) = other.0 == write
is_own_named write (dir_name.Wide deletes low high) = false
is_own_named write (dir_name.Staged job name) = false

-- it tells whether the text is that of an own directory of the id
abbrev pub IsOwnNamed : ℕ → List ℕ → Bool → Type 0
IsOwnNamed write text true = IsOwnText write text
IsOwnNamed write text false = IsOwnText write text → ⊥

-- such a directory of one of these places; or none of them is in one
abbrev pub IsFirstOwn : ℕ → List Place → Option (List ℕ) → Type 0
IsFirstOwn write places (Some dir) = IsOwnText write dir × ((place : Place) × Contains places place × (place.dir ≡ dir))
IsFirstOwn write places None = (place : Place) → Contains places place → IsOwnText write place.dir → ⊥

-- the directory that is named is listed
abbrev pub StillListedIn : Option Store → TableId → ℕ → JobFault → Type 0
StillListedIn told table write (fault.StillListed dir) = Tells told (λ (s : Store). IsListedOwn table write dir s.tree)
StillListedIn told table write why = Unit {0}
