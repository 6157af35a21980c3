-- What a pass of a script leaves over a house on which nobody else acts, where it is done and where the run stops in it.
use Rattle.std.specs.Prelude.{◌≡◌, ◌≤◌, false, Option, None, Result, Ok, Err, List, [], ◌++◌, length}
use Rattle.std.specs.List.{AllByRecursion}
use Rattle.hv_shelf.specs.Disk.{Store}
use Rattle.hv_history.specs.declared.entry.Entry.{Entry}
use Rattle.hv_history.specs.State.{state_of}
use Rattle.hv_history.specs.Legal.{AllFit, IsLegalFrom, profile}
use Rattle.hv_session.specs.hv_beginning.specs.hv_steps.specs.hv_table_reader.specs.hv_acts.specs.hv_telling.specs.hv_house.specs.declared.fault.HouseFault.{HouseFault}
use Rattle.hv_session.specs.hv_beginning.specs.hv_steps.specs.hv_table_reader.specs.hv_acts.specs.hv_telling.specs.hv_house.specs.declared.fault.HouseFault.TheVariants as fault
use Rattle.hv_session.specs.hv_beginning.specs.hv_steps.specs.hv_table_reader.specs.hv_acts.specs.hv_telling.specs.hv_house.specs.declared.house.House.{House}
use Rattle.hv_session.specs.hv_beginning.specs.hv_steps.specs.hv_table_reader.specs.hv_acts.specs.hv_telling.specs.hv_house.specs.House.{entries_of, Leaves}
use Rattle.hv_session.specs.hv_beginning.specs.hv_steps.specs.hv_table_reader.specs.hv_acts.specs.hv_telling.specs.Telling.{IsToldHouse}
use Rattle.hv_session.specs.hv_beginning.specs.hv_steps.specs.declared.ready.Reply.{Reply}
use Rattle.hv_compact.specs.declared.fault.RunFault.{RunFault}
use Rattle.hv_compact.specs.declared.fault.RunFault.TheVariants as run
use Rattle.hv_clean.specs.declared.fault.PassFault.{PassFault}
use Rattle.hv_clean.specs.declared.fault.PassFault.TheVariants as pass_fault

-- a pass or a job without room for its next entry ends there, and the run goes on
abbrev pub fault_of : RunFault → Result (Unit {0}) HouseFault
fault_of run.Store = Err fault.Store
fault_of (run.Full entries) = Ok tt
fault_of run.NoMemory = Err fault.NoMemory

-- a pass of a cleaner stops as a run of acts does
abbrev pub run_of : PassFault → RunFault
run_of pass_fault.Store = run.Store
run_of (pass_fault.Full entries) = run.Full entries
run_of pass_fault.NoMemory = run.NoMemory

-- where it was done nothing is printed
abbrev pub quietly : Result (Unit {0}) HouseFault → Result Reply HouseFault
quietly (Ok done) = Ok (record { text = []; refused = false; ended = None })
quietly (Err why) = Err why

-- the book went on by such entries alone
pub record AddsBeside (Of : Entry → Type 0) (before now : List Entry) : Type 0 where
  pub added : List Entry
  pub book : now ≡ before ++ added
  pub of_it : AllByRecursion Of added

-- The run stopped in it: its entries so far fit behind the book, and where the house is told they are legal. The journal reads to the book,
-- or where the store failed, to the book or to the book and one entry more of it.
pub record StopsBeside {D : Type 0} (told : D → Option Store) (Of : Entry → Type 0) (why : HouseFault)
    (before now : House D) : Type 0 where
  pub added : List Entry
  pub book : entries_of now ≡ entries_of before ++ added
  pub of_it : AllByRecursion Of added
  pub fits : AllFit profile (state_of (entries_of before)) added
  pub legal : IsToldHouse told before → IsLegalFrom profile (state_of (entries_of before)) added
  pub further : List Entry
  pub further_of_it : AllByRecursion Of further
  pub few : length further ≤ 1
  pub leaves : Leaves why further (told now.shelf) (entries_of now)
