-- Why a run stops, and the status then.
use Rattle.std.specs.Prelude.{ℕ}
use Rattle.hv_base.specs.Faults.{Rose}
use Rattle.hv_session.specs.hv_beginning.specs.hv_steps.specs.hv_table_reader.specs.hv_acts.specs.hv_telling.specs.hv_house.specs.declared.fault.HouseFault.{HouseFault}
use Rattle.hv_session.specs.hv_beginning.specs.hv_steps.specs.hv_table_reader.specs.hv_acts.specs.hv_telling.specs.hv_house.specs.declared.fault.HouseFault.TheVariants as fault
use Rattle.hv_session.specs.hv_beginning.specs.hv_steps.specs.hv_table_reader.specs.hv_acts.specs.declared.told.ToldHouse.{ToldHouse}
use Rattle.hv_session.specs.hv_beginning.specs.hv_steps.specs.hv_table_reader.specs.hv_acts.specs.Going.{IsShutHouse}
use Rattle.hv_program.specs.declared.stop.Stop.{Stop}
use Rattle.hv_program.specs.declared.stop.Stop.TheVariants as stop

abbrev pub stop_of : HouseFault → Stop
stop_of fault.Store = stop.Store
stop_of (fault.Failed count) = stop.Store
stop_of fault.NoMemory = stop.NoMemory

abbrev pub status_of_stop : Stop → ℕ
status_of_stop stop.Source = 3
status_of_stop stop.Sink = 4
status_of_stop stop.Store = 5
status_of_stop stop.NoMemory = 7

-- a device is blamed only where it failed: the sink and the store, by their counts before and now
abbrev pub Blames : Stop → ℕ → ℕ → ℕ → ℕ → Type 0
Blames stop.Source sink sink' store store' = ⊥
Blames stop.Sink sink sink' store store' = Rose sink sink'
Blames stop.Store sink sink' store store' = Rose store store'
Blames stop.NoMemory sink sink' store store' = Unit {0}

-- the house is closed where the store failed
abbrev pub IsShutFor : {D : Type 0} → ToldHouse D → HouseFault → Type 0
IsShutFor now fault.Store = IsShutHouse now
IsShutFor now fault.NoMemory = Unit {0}
IsShutFor now (fault.Failed count) = Unit {0}

abbrev pub ShutsFor : {D : Type 0} → ToldHouse D → Stop → Type 0
ShutsFor now stop.Source = Unit {0}
ShutsFor now stop.Sink = Unit {0}
ShutsFor now stop.Store = IsShutHouse now
ShutsFor now stop.NoMemory = Unit {0}
