-- What is proved of a script that was done whole: where no device failed and memory was found, the store keeps its serial history.
use Rattle.std.specs.Prelude.{◌≡◌, ℕ, ◌≤◌, Bool, List, [], ◌++◌}
use Rattle.std.specs.List.{AllByRecursion}
use Rattle.hv_shelf.specs.Disk.{Store, Tree}
use Rattle.hv_script.specs.Actions.{actions_of}
use Rattle.hv_history.specs.declared.entry.Entry.{Entry}
use Rattle.hv_history.specs.declared.entry.Entry.TheVariants as entry
use Rattle.hv_history.specs.declared.entry.Cause.TheVariants as cause
use Rattle.hv_session.specs.hv_beginning.specs.hv_steps.specs.hv_table_reader.specs.hv_acts.specs.hv_telling.specs.hv_house.specs.Booting.{opening_of}
use Rattle.hv_program.specs.Change.{Change, from_to}
use Rattle.hv_program.specs.Doing.{Standing}
use Rattle.hv_program.specs.Running.{beginning}
use Rattle.hv_program.specs.Results.{HasBook}
use Rattle.hv_program.specs.Headline.{IsAllDone}
use Rattle.hv_law_serial.specs.Serial.{serial}
use Rattle.hv_law_serial.specs.History.{AreInMemory, AreWholePasses, AddsNoFailure}

-- no transaction ended since memory lacked
abbrev pub IsInMemory : Entry → Type 0
IsInMemory (entry.Abort txn cause.Memory) = ⊥
IsInMemory event = Unit {0}

abbrev pub AddsInMemory : List Entry → List Entry → Type 0
AddsInMemory start book = (added : List Entry) → book ≡ start ++ added → AllByRecursion IsInMemory added

-- the serial history of a script, behind a book's opening over these files
abbrev pub history_of : Tree → List Entry → List ℕ → Standing
history_of files book script = serial (beginning (opening_of files book)) (actions_of script)

-- In a run that did all its script the store's count of faults didn't rise, and memory was found, by its entries and by its replies; no
-- compaction was given up for a fault, damage or want of memory, and no pass of a cleaner left anything out but for want of room.
pub record IsUntroubled (faults : Change ℕ) (book : List Entry) (source written : Change (List ℕ))
    (stores : Change Store) (refused : Bool)
    (all : IsAllDone faults book source written stores refused) : Type 0 where
  pub unrisen : faults.now ≤ faults.was
  pub in_memory : AddsInMemory (opening_of stores.was.tree book) all.served.last.book
  pub unfailed : AddsNoFailure (opening_of stores.was.tree book) all.served.last.book
  pub replies : AreInMemory (from_to (opening_of stores.was.tree book) all.served.last.book)
      (beginning (opening_of stores.was.tree book)) all.served.last
      (actions_of source.was) all.served.output refused all.served.are_done
  pub passes : AreWholePasses (from_to (opening_of stores.was.tree book) all.served.last.book)
      (beginning (opening_of stores.was.tree book)) all.served.last
      (actions_of source.was) all.served.output refused all.served.are_done

-- the store has the book of the serial history, behind which none waits
pub record KeepsHistory (book : List Entry) (script : List ℕ) (stores : Change Store) : Type 0 where
  pub has_book : HasBook (history_of stores.was.tree book script).book stores.now
  pub settled : (history_of stores.was.tree book script).waiting ≡ []

abbrev pub ScriptHistory : Type 0
ScriptHistory =
    (faults : Change ℕ) (book : List Entry) (source written : Change (List ℕ)) (stores : Change Store) (refused : Bool)
    (all : IsAllDone faults book source written stores refused)
    → IsUntroubled faults book source written stores refused all → KeepsHistory book source.was stores
