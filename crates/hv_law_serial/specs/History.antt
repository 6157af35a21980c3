-- What is proved of the serial history: where no device fails and memory is found, a run makes it.
use Rattle.std.specs.Prelude.{◌≡◌, ℕ, Bool, None, List, [], ◌∷◌, ◌++◌}
use Rattle.std.specs.List.{AllByRecursion}
use Rattle.hv_script.specs.declared.actions.Action.{Action}
use Rattle.hv_script.specs.declared.actions.Action.TheVariants as action
use Rattle.hv_history.specs.declared.entry.Entry.{Entry}
use Rattle.hv_history.specs.declared.entry.Entry.TheVariants as entry
use Rattle.hv_history.specs.declared.entry.Cause.TheVariants as cause
use Rattle.hv_history.specs.declared.entry.JobCause.TheVariants as job_cause
use Rattle.hv_history.specs.Legal.{IsLegal, profile}
use Rattle.hv_history.specs.Answers.{cause_text}
use Rattle.hv_law_next.specs.Order.{AreSteady}
use Rattle.hv_program.specs.Change.{Change, from_to}
use Rattle.hv_program.specs.Background.{IsWholePass}
use Rattle.hv_program.specs.Doing.{Standing, AreDone}
use Rattle.hv_program.specs.Running.{beginning}
use Rattle.hv_law_serial.specs.Serial.{serial}

-- no entry that was added behind a book is an abort for want of memory or for a fault of the store
abbrev pub AddsSteadily : List Entry → List Entry → Type 0
AddsSteadily start book = (added : List Entry) → book ≡ start ++ added → AreSteady added

-- no reply says that memory lacked
abbrev pub memory_line : List ℕ
memory_line = cause_text None cause.Memory

abbrev pub AreInMemory : (books : Change (List Entry)) (before now : Standing) (actions : List Action) (output : List ℕ)
    (refused : Bool)
    → AreDone books before now actions output refused → Type 0
AreInMemory books before now [] output refused done = Unit {0}
AreInMemory books before now (first ∷ more) output refused done =
    (done.1 ≡ memory_line → ⊥) × AreInMemory books done.0 now more done.2 done.4 done.6

-- no compaction was given up for a fault, damage or want of memory
abbrev pub IsNoFailure : Entry → Type 0
IsNoFailure (entry.Failed job job_cause.Gone) = Unit {0}
IsNoFailure (entry.Failed job why) = ⊥
IsNoFailure event = Unit {0}

abbrev pub AddsNoFailure : List Entry → List Entry → Type 0
AddsNoFailure start book = (added : List Entry) → book ≡ start ++ added → AllByRecursion IsNoFailure added

-- no pass of a cleaner left anything out but for want of room
abbrev pub PassesWhole : Standing → Standing → Action → Type 0
PassesWhole before now action.Clean = IsWholePass before.book now.book
PassesWhole before now other = Unit {0}

abbrev pub AreWholePasses : (books : Change (List Entry)) (before now : Standing) (actions : List Action)
    (output : List ℕ) (refused : Bool)
    → AreDone books before now actions output refused → Type 0
AreWholePasses books before now [] output refused done = Unit {0}
AreWholePasses books before now (first ∷ more) output refused done =
    PassesWhole before done.0 first × AreWholePasses books done.0 now more done.2 done.4 done.6

-- A run in which no device failed and memory was found: no compaction was given up for a fault, damage or want
-- of memory, and no pass of a cleaner left anything out but for want of room.
pub record RanSteadily (start : List Entry) (now : Standing) (actions : List Action) (output : List ℕ) (refused : Bool)
    (done : AreDone (from_to start now.book) (beginning start) now actions output refused) : Type 0 where
  pub legal : IsLegal profile now.book
  pub steady : AddsSteadily start now.book
  pub unfailed : AddsNoFailure start now.book
  pub in_memory : AreInMemory (from_to start now.book) (beginning start) now actions output refused done
  pub passes : AreWholePasses (from_to start now.book) (beginning start) now actions output refused done

abbrev pub SerialHistory : Type 0
SerialHistory =
    (start : List Entry) (now : Standing) (actions : List Action) (output : List ℕ) (refused : Bool)
    (done : AreDone (from_to start now.book) (beginning start) now actions output refused)
    → RanSteadily start now actions output refused done → now ≡ serial (beginning start) actions
