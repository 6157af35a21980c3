-- What acts that read a table leave, whatever others do between.
-- Source: Hive Transactions; that each act is one hold of the house is this project's profile.
use Rattle.std.specs.Prelude.{◌⊎◌, ℕ, ◌<◌, ◌≤◌, Option, None, List, [], Result, Ok, Err, IfOk, IfErr}
use Rattle.std.specs.Global.{Vec}
use Rattle.hv_base.specs.declared.ids.TxnId.{TxnId}
use Rattle.hv_shelf.specs.Disk.{Store}
use Rattle.hv_history.specs.declared.entry.Cause.TheVariants as cause
use Rattle.hv_trail.specs.declared.trail.TrailItem.{TrailItem}
use Rattle.hv_acts.specs.hv_telling.specs.hv_house.specs.declared.fault.HouseFault.{HouseFault}
use Rattle.hv_acts.specs.hv_telling.specs.hv_house.specs.declared.fault.HouseFault.TheVariants as house_fault
use Rattle.hv_acts.specs.hv_telling.specs.hv_house.specs.declared.listing.GetFault.{GetFault}
use Rattle.hv_acts.specs.hv_telling.specs.hv_house.specs.declared.listing.GetFault.TheVariants as get_fault
use Rattle.hv_table_reader.specs.declared.fault.RowFault.{RowFault}
use Rattle.hv_table_reader.specs.declared.fault.RowFault.TheVariants as row_fault
use Rattle.hv_acts.specs.declared.told.ToldHouse.{ToldHouse}
use Rattle.hv_acts.specs.declared.fault.ActFault.{ActFault}
use Rattle.hv_acts.specs.declared.fault.ActFault.TheVariants as act_fault
use Rattle.hv_acts.specs.Told.{trail_in}
use Rattle.hv_acts.specs.Answers.{HasItsMark}
use Rattle.hv_acts.specs.Going.{faults_in, IsOpenHouse, AddsOwn, IsShutBetween, IsShutNow}
use Rattle.hv_actor.specs.Acting.{Setting, Moment}

-- ---- what the acts leave

-- behind a fault of the store the run stops, and behind any other the house is open
abbrev pub LeavesSeeing : {D : Type 0} → (D → Option Store) → (ToldHouse D → ToldHouse D → Type 0) → ℕ → ToldHouse D
    → RowFault → Type 0
LeavesSeeing told meanwhile txn now (row_fault.House house_fault.Store) = IsShutBetween meanwhile
    ⊎ IsShutNow told txn now
LeavesSeeing told meanwhile txn now (row_fault.House house_fault.NoMemory) = IsOpenHouse now
LeavesSeeing told meanwhile txn now (row_fault.House (house_fault.Failed count)) = IsOpenHouse now
LeavesSeeing told meanwhile txn now (row_fault.Damaged place) = IsOpenHouse now

-- a fault that has a count has the mark of a read
abbrev pub IsMarkedIn : List TrailItem → TxnId → RowFault → Type 0
IsMarkedIn trail by (row_fault.House (house_fault.Failed count)) = HasItsMark trail by (cause.ReadFault count)
IsMarkedIn trail by (row_fault.House house_fault.Store) = Unit {0}
IsMarkedIn trail by (row_fault.House house_fault.NoMemory) = Unit {0}
IsMarkedIn trail by (row_fault.Damaged place) = Unit {0}

-- and it is one by which the store's count rose
abbrev pub RisesTo : ℕ → ℕ → RowFault → Type 0
RisesTo low high (row_fault.House (house_fault.Failed count)) = (low < count) × (count ≤ high)
RisesTo low high (row_fault.House house_fault.Store) = Unit {0}
RisesTo low high (row_fault.House house_fault.NoMemory) = Unit {0}
RisesTo low high (row_fault.Damaged place) = Unit {0}

-- acts that read: they added marks alone
pub record LooksOver {D T : Type 0} (setting : Setting D (ToldHouse D)) (by : TxnId) (before now : Moment (ToldHouse D))
    (result : Result T RowFault) : Type 0 where
  pub adds : AddsOwn setting.faults setting.between by.0 before now []
  pub running : IfOk result (λ _. IsOpenHouse now.house)
  pub leaves : IfErr result (LeavesSeeing setting.told setting.meanwhile by.0 now.house)
  pub marked : IfErr result (IsMarkedIn (trail_in now.house) by)
  pub counts : IfErr result (RisesTo (faults_in setting.faults before.house) (faults_in setting.faults now.house))

-- none of them failed so far
abbrev pub HasLookedOver : {D : Type 0} → Setting D (ToldHouse D) → TxnId → Moment (ToldHouse D) → Moment (ToldHouse D)
    → Type 0
HasLookedOver setting by before now = LooksOver {T = Unit {0}} setting by before now (Ok tt)

-- the fault is the house's
abbrev pub IsOfHouse : RowFault → Type 0
IsOfHouse (row_fault.House why) = Unit {0}
IsOfHouse (row_fault.Damaged place) = ⊥

-- what an act that lists answers, that or no listing at all
abbrev pub IsListFault : ActFault → Type 0
IsListFault (act_fault.Ended at) = Unit {0}
IsListFault (act_fault.Full entries) = ⊥
IsListFault (act_fault.Held holder) = ⊥
IsListFault (act_fault.Broken put count) = ⊥
IsListFault act_fault.Unfit = ⊥
IsListFault (act_fault.House why) = Unit {0}

-- for a transaction that has ended nothing more is read, which counts as want of memory
abbrev pub fault_of : ActFault → HouseFault
fault_of (act_fault.House why) = why
fault_of why = house_fault.NoMemory

-- so too of a file; that nothing stands there is an answer
abbrev pub missed_as : GetFault → Result (Option (Vec ℕ)) RowFault
missed_as (get_fault.NotOpen at) = Err (row_fault.House house_fault.NoMemory)
missed_as get_fault.NotFound = Ok None
missed_as (get_fault.House why) = Err (row_fault.House why)
