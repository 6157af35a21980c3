-- What the tests ask of a house before they call it.
use Rattle.std.specs.Prelude.{◌≡◌, ℕ, ◌≤◌, false, Option, Some, None, List, length}
use Rattle.std.specs.List.{AllByRecursion, list_any}
use Rattle.hv_base.specs.declared.ids.TxnId.{TxnId}
use Rattle.hv_base.specs.declared.ids.Touch.{Touch}
use Rattle.hv_shelf.specs.Plan.{Memory}
use Rattle.hv_shelf.specs.Disk.{Store}
use Rattle.hv_logic.specs.declared.catalog.TableInfo.{TableInfo}
use Rattle.hv_logic.specs.declared.effect.Effect.{Effect}
use Rattle.hv_route.specs.Touching.{touches_of, is_long}
use Rattle.hv_route.specs.declared.files.OutFile.{OutFile}
use Rattle.hv_history.specs.declared.entry.Entry.{Entry}
use Rattle.hv_history.specs.declared.state.Table.{Table}
use Rattle.hv_history.specs.State.{state_of, numbered}
use Rattle.hv_stands.specs.Files.{place_of_file}
use Rattle.hv_trail.specs.declared.trail.TrailItem.{TrailItem}
use Rattle.hv_trail.specs.declared.trail.Reader.TheVariants.{Txn}
use Rattle.hv_trail.specs.Trail.{HasWritten, broken}
use Rattle.hv_session.specs.hv_beginning.specs.hv_steps.specs.hv_table_reader.specs.hv_acts.specs.hv_telling.specs.hv_house.specs.declared.house.House.{House}
use Rattle.hv_session.specs.hv_beginning.specs.hv_steps.specs.hv_table_reader.specs.hv_acts.specs.hv_telling.specs.hv_house.specs.declared.calls.EntryFault.{EntryFault}
use Rattle.hv_session.specs.hv_beginning.specs.hv_steps.specs.hv_table_reader.specs.hv_acts.specs.hv_telling.specs.hv_house.specs.declared.calls.EntryFault.TheVariants as fault
use Rattle.hv_session.specs.hv_beginning.specs.hv_steps.specs.hv_table_reader.specs.hv_acts.specs.hv_telling.specs.hv_house.specs.House.{IsReadyWithin}
use Rattle.hv_session.specs.hv_beginning.specs.hv_steps.specs.hv_table_reader.specs.hv_acts.specs.hv_telling.specs.hv_house.specs.Steps.{HoldsId}

-- what a store in memory tells
abbrev pub told_memory : Memory → Option Store
told_memory m = Some m.store

-- a house is ready within its own limits
abbrev pub IsOpen : {D : Type 0} → (D → Option Store) → House D → Type 0
IsOpen told house = IsReadyWithin house.limits told house

-- and stays so
abbrev pub StaysOpen : {D : Type 0} → (D → Option Store) → House D → House D → Type 0
StaysOpen told before now = IsReadyWithin before.limits told now

-- the house refused an entry itself
abbrev pub IsRefusal : EntryFault → Type 0
IsRefusal (fault.NotOpen at) = Unit {0}
IsRefusal (fault.Full entries) = Unit {0}
IsRefusal (fault.House why) = ⊥

-- a table of the book
pub record IsTable (book : List Entry) (info : TableInfo) : Type 0 where
  pub table : Table
  pub here : numbered (state_of book).tables info.table.0 ≡ Some table
  pub same : table.info ≡ info

abbrev pub IsTableOf : List Entry → Option TableInfo → Type 0
IsTableOf book None = Unit {0}
IsTableOf book (Some info) = IsTable book info

-- each of these files has a mark that the transaction put it under this write id
abbrev pub AreFilesPut : List TrailItem → TxnId → (table write : ℕ) → List OutFile → Type 0
AreFilesPut trail txn table write files = AllByRecursion (λ file. HasWritten trail (Txn txn) (place_of_file table write file)) files

-- the touches of a change that is within its limits
pub record AreTouches (info : TableInfo) (effect : Effect) (wrote : List Touch) : Type 0 where
  pub is : wrote ≡ touches_of info effect
  pub texts : list_any is_long wrote ≡ false
  pub count : length wrote ≤ 100

-- the transaction put these files under its write id, and no call on files failed for it
pub record IsDone (book : List Entry) (trail : List TrailItem) (txn : TxnId) (table write : ℕ) (files : List OutFile) : Type 0 where
  pub put : AreFilesPut trail txn table write files
  pub holds : HoldsId book txn.0 table write
  pub unbroken : broken (Txn txn) trail ≡ None
