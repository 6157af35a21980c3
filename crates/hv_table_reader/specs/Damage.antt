-- What an answer tells of a damaged file.
use Rattle.std.specs.Prelude.{◌≡◌, ℕ, Bool, List}
use Rattle.hv_shelf.specs.declared.place.Place.{Place}
use Rattle.hv_shelf.specs.Disk.{Tree}
use Rattle.hv_choosing.specs.declared.dir.Span.{Span}
use Rattle.hv_choosing.specs.declared.listing.DirFile.{DirFile}
use Rattle.hv_table_rows.specs.Faults.{IsShort}
use Rattle.hv_table_rows.specs.Damage.{told_place, IsDamagedFile, IsOneDamaged}
use Rattle.hv_acts.specs.hv_telling.specs.hv_house.specs.declared.fault.HouseFault.TheVariants as house_fault
use Rattle.hv_table_reader.specs.declared.fault.RowFault.{RowFault}
use Rattle.hv_table_reader.specs.declared.fault.RowFault.TheVariants as fault

-- the fault is none of the store: a file is damaged, or memory lacks
abbrev pub IsSoft : RowFault → Type 0
IsSoft (fault.Damaged place) = Unit {0}
IsSoft (fault.House house_fault.NoMemory) = Unit {0}
IsSoft (fault.House house_fault.Store) = ⊥
IsSoft (fault.House (house_fault.Failed count)) = ⊥

-- where damage is told, the names of its place are short enough for an entry
abbrev pub IsShortDamage : RowFault → Type 0
IsShortDamage (fault.Damaged place) = IsShort place.partition place.dir
IsShortDamage _ = Unit {0}

-- the answer is that a file is damaged
abbrev pub IsDamage : RowFault → Type 0
IsDamage (fault.Damaged place) = Unit {0}
IsDamage _ = ⊥

-- where damage is told, it is that of this place and offset
abbrev pub TellsPlace : Place → ℕ → RowFault → Type 0
TellsPlace place at (fault.Damaged told) = told ≡ told_place place at
TellsPlace place at (fault.House why) = Unit {0}

-- it is that of the file at this place, which isn't the one of a kind and of these write ids
abbrev pub TellsFile : Tree → Place → Bool → Span → RowFault → Type 0
TellsFile files place deletes span (fault.Damaged told) = IsDamagedFile files place deletes span told
TellsFile files place deletes span (fault.House why) = Unit {0}

-- it is that of one of these files of a kind
abbrev pub TellsOne : Bool → Tree → List DirFile → RowFault → Type 0
TellsOne deletes files taken (fault.Damaged told) = IsOneDamaged deletes files taken told
TellsOne deletes files taken (fault.House why) = Unit {0}
