-- Why a call on files was refused. Source: this project's profile.

use Rattle.hv_paths.specs.declared.fault.FileFault.{FileFault}
use Rattle.hv_paths.specs.declared.fault.FileFault.TheVariants.{Device, NoMemory}

-- the system, or this store, refused the call
abbrev pub IsDevice : FileFault → Type 0
IsDevice (Device cause) = Unit {0}
IsDevice NoMemory = ⊥
