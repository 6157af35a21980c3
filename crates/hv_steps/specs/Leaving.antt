-- What one act leaves of the house that was open where it was last seen.
-- Source: this project's profile.
use Rattle.std.specs.Prelude.{◌⊎◌, ℕ, Option, List, [], ◌∷◌, Result, Ok, Err}
use Rattle.hv_shelf.specs.Disk.{Store}
use Rattle.hv_history.specs.declared.entry.Entry.{Entry}
use Rattle.hv_table_reader.specs.hv_acts.specs.hv_telling.specs.hv_house.specs.declared.fault.HouseFault.{HouseFault}
use Rattle.hv_table_reader.specs.hv_acts.specs.hv_telling.specs.hv_house.specs.declared.fault.HouseFault.TheVariants as fault
use Rattle.hv_table_reader.specs.hv_acts.specs.hv_telling.specs.hv_house.specs.Faults.{EndsRun}
use Rattle.hv_table_reader.specs.hv_acts.specs.declared.told.ToldHouse.{ToldHouse}
use Rattle.hv_table_reader.specs.hv_acts.specs.declared.fault.ActFault.{ActFault}
use Rattle.hv_table_reader.specs.hv_acts.specs.declared.fault.ActFault.TheVariants as act
use Rattle.hv_table_reader.specs.hv_acts.specs.Told.{trail_in}
use Rattle.hv_steps.specs.Going.{IsOpenHouse, IsGone, IsShutBetween, IsShutNow}

-- the house's call failed: where its store did, others had closed it or this call did
abbrev pub IsLeftBy : {D : Type 0} → (D → Option Store) → (ToldHouse D → ToldHouse D → Type 0) → ℕ → ToldHouse D
    → HouseFault → Type 0
IsLeftBy told meanwhile txn now fault.Store = IsShutBetween meanwhile ⊎ IsShutNow told txn now
IsLeftBy told meanwhile txn now fault.NoMemory = IsOpenHouse now
IsLeftBy told meanwhile txn now (fault.Failed count) = IsOpenHouse now

-- an act of this transaction was refused
abbrev pub IsLeftFor : {D : Type 0} → (D → Option Store) → (ToldHouse D → ToldHouse D → Type 0) → ℕ → ToldHouse D
    → ActFault → Type 0
IsLeftFor told meanwhile txn now (act.Ended at) = IsOpenHouse now × IsGone (trail_in now) txn at
IsLeftFor told meanwhile txn now (act.Full entries) = IsOpenHouse now
IsLeftFor told meanwhile txn now (act.Held by) = IsOpenHouse now
IsLeftFor told meanwhile txn now (act.Broken put count) = IsOpenHouse now
IsLeftFor told meanwhile txn now act.Unfit = IsOpenHouse now
IsLeftFor told meanwhile txn now (act.House why) = IsLeftBy told meanwhile txn now why

abbrev pub IsLeft : {D T : Type 0} → (D → Option Store) → (ToldHouse D → ToldHouse D → Type 0) → ℕ → ToldHouse D
    → Result T ActFault → Type 0
IsLeft told meanwhile txn now (Ok x) = IsOpenHouse now
IsLeft told meanwhile txn now (Err why) = IsLeftFor told meanwhile txn now why

-- no call on files is made, so none failed
abbrev pub EndsAct : ActFault → Type 0
EndsAct (act.Ended at) = Unit {0}
EndsAct (act.Full entries) = Unit {0}
EndsAct (act.Held by) = Unit {0}
EndsAct (act.Broken put count) = Unit {0}
EndsAct act.Unfit = Unit {0}
EndsAct (act.House why) = EndsRun why

-- one entry is added, or none
abbrev pub added_by : {T : Type 0} → (T → Entry) → Result T ActFault → List Entry
added_by event (Ok x) = event x ∷ []
added_by event (Err why) = []

-- ---- an abort for want of memory that was refused

-- it fits while its transaction is open: so others ended it, or the house's call failed
abbrev pub IsNeverUnfit : ActFault → Type 0
IsNeverUnfit (act.Ended at) = Unit {0}
IsNeverUnfit (act.Full entries) = ⊥
IsNeverUnfit (act.Held by) = ⊥
IsNeverUnfit (act.Broken put count) = ⊥
IsNeverUnfit act.Unfit = ⊥
IsNeverUnfit (act.House why) = Unit {0}
