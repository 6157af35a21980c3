-- How a store's fault is passed on.
use Rattle.std.specs.Prelude.{if◌then◌else◌, ◌≡◌, ℕ, ◌-◌, ◌^◌, ◌<◌, ◌≤◌, nat_lt, Bool, true, false, Result, Ok, Err, IfErr}
use Rattle.hv_base.specs.Faults.{Rose}
use Rattle.hv_shelf.specs.Causes.{last_count}
use Rattle.hv_shelf.specs.declared.fault.ShelfFault.{ShelfFault}
use Rattle.hv_shelf.specs.declared.fault.ShelfFault.TheVariants as shelf
use Rattle.hv_house.specs.declared.fault.HouseFault.{HouseFault}
use Rattle.hv_house.specs.declared.fault.HouseFault.TheVariants as fault

-- a fault of a call on files, by the store's count of faults behind it: at its last value it counts as one of the journal
abbrev pub failed_with : ℕ → HouseFault
failed_with count = if nat_lt count (2 ^ 64 - 1) then fault.Failed count else fault.Store

abbrev pub house_fault : ℕ → ShelfFault → HouseFault
house_fault count shelf.Failed = failed_with count
house_fault count shelf.NoMemory = fault.NoMemory

-- how a put ended
abbrev pub put_result : ℕ → Result (Unit {0}) ShelfFault → Result (Unit {0}) HouseFault
put_result count (Ok done) = Ok done
put_result count (Err why) = Err (house_fault count why)

-- the store failed only where its count of faults rose
pub record StoreCause (faults faults' : ℕ) (Fails : Type 0) : Type 0 where
  pub later : faults ≤ faults'
  pub failed : Fails → Rose faults faults'

-- A fault of the store has its cause: its count of faults rose in this call. One that a statement keeps has the count as it is now.
abbrev pub HasRisen : ℕ → ℕ → HouseFault → Type 0
HasRisen faults faults' fault.Store = Rose faults faults'
HasRisen faults faults' fault.NoMemory = Unit {0}
HasRisen faults faults' (fault.Failed count) = (count ≡ faults') × (faults < faults')

-- the counts of a call that may fail by its files
pub record FileCause {T : Type 0} (faults faults' : ℕ) (result : Result T HouseFault) : Type 0 where
  pub later : faults ≤ faults'
  pub failed : IfErr result (HasRisen faults faults')

-- The store's hard count doesn't fall in a call, and a house that was open is closed only where it rose: so behind a call on the journal
-- that failed, or behind a call on files that failed at the last count of faults.
pub record HardStep (hard hard' : ℕ) (was is : Bool) : Type 0 where
  pub later : hard ≤ hard'
  pub shuts : was ≡ false → is ≡ true → Rose hard hard'

abbrev pub HasRisenHard : ℕ → ℕ → HouseFault → Type 0
HasRisenHard hard hard' fault.Store = Rose hard hard'
HasRisenHard hard hard' fault.NoMemory = Unit {0}
HasRisenHard hard hard' (fault.Failed count) = ⊥

-- the hard count over calls on the journal alone: it doesn't fall, and it rose where the journal failed
pub record JournalCause {T : Type 0} (hard hard' : ℕ) (result : Result T HouseFault) : Type 0 where
  pub later : hard ≤ hard'
  pub failed : IfErr result (HasRisenHard hard hard')

-- a house that was open is closed for a call on files only where it failed so, and the count of faults is at its last value
pub record ShutsAtLast (Fails : Type 0) (faults : ℕ) (was is : Bool) : Type 0 where
  pub shuts : was ≡ false → is ≡ true → Fails × (faults ≡ last_count)

-- the fault ends the run: the journal failed, or memory lacks; no fault of a file does
abbrev pub EndsRun : HouseFault → Type 0
EndsRun (fault.Failed count) = ⊥
EndsRun _ = Unit {0}
