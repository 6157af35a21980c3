-- What the actions of a script leave, in the book, in the files and in what was printed: where all were done, and
-- where the run stopped at one of them.
use Rattle.std.specs.Prelude.{◌≡◌, ◌⊎◌, ℕ, Bool, List, ◌∷◌, ◌++◌}
use Rattle.hv_base.specs.Sink.{GainsPart}
use Rattle.hv_shelf.specs.Disk.{Store}
use Rattle.hv_history.specs.declared.entry.Entry.{Entry}
use Rattle.hv_history.specs.State.{state_of}
use Rattle.hv_history.specs.Legal.{IsLegal, profile}
use Rattle.hv_history.specs.Journal.{Reads}
use Rattle.hv_journal.specs.Appending.{ReadsMore}
use Rattle.hv_script.specs.declared.actions.Action.{Action}
use Rattle.hv_law_made.specs.Opening.{whole_jobs}
use Rattle.hv_law_made.specs.Standing.{Standing as Stands}
use Rattle.hv_session.specs.hv_beginning.specs.hv_steps.specs.hv_table_reader.specs.hv_acts.specs.hv_telling.specs.hv_house.specs.declared.boot.BootFault.TheVariants as fault
use Rattle.hv_session.specs.hv_beginning.specs.hv_steps.specs.hv_table_reader.specs.hv_acts.specs.hv_telling.specs.hv_house.specs.Booting.{opening_of, IsIdle, IsCutOpening}
use Rattle.hv_session.specs.hv_beginning.specs.hv_steps.specs.hv_table_reader.specs.hv_acts.specs.hv_telling.specs.Telling.{OpensLater}
use Rattle.hv_program.specs.Change.{Change, from_to}
use Rattle.hv_program.specs.Doing.{Standing, IsDone, AreDone}
use Rattle.hv_program.specs.Own.{Grows}
use Rattle.hv_program.specs.Running.{beginning, IsHalfway, AreFurther}

-- A book of a run behind the opening of an earlier book: it is legal, and begins with that opening; what entries behind it keep of
-- faults came in this run, while the store's count of faults rose from the one number to the other.
pub record IsBookOf (low high : ℕ) (start book : List Entry) : Type 0 where
  pub legal : IsLegal profile book
  pub grows : Grows low high start book

-- the store's journal reads to the book, and its files are those that the book makes
pub record HasBook (book : List Entry) (store : Store) : Type 0 where
  pub reads : Reads book store.journal
  pub stands : Stands (state_of book) store.tree

-- All actions were done: the replies of all of them were written, by the book that the store has now, and one of
-- them is a refusal or none is.
pub record IsServed (faults : Change ℕ) (start : List Entry) (actions : List Action) (written : Change (List ℕ))
    (store : Store) (refused : Bool) : Type 0 where
  pub last : Standing
  pub is_book : IsBookOf faults.was faults.now start last.book
  pub has_book : HasBook last.book store
  pub output : List ℕ
  pub wrote : written.now ≡ written.was ++ output
  pub are_done : AreDone (from_to start last.book) (beginning start) last actions output refused

-- The replies of the actions in front of this one were written, and a front of its own reply. It was done; those
-- behind it were not.
pub record IsCutOff (faults : Change ℕ) (start : List Entry) (actions : List Action) (written : Change (List ℕ))
    (store : Store) : Type 0 where
  pub front : List Action
  pub action : Action
  pub behind : List Action
  pub actions_are : actions ≡ front ++ action ∷ behind
  pub before : Standing
  pub last : Standing
  pub is_book : IsBookOf faults.was faults.now start last.book
  pub has_book : HasBook last.book store
  pub output : List ℕ
  pub refused : Bool
  pub are_done : AreDone (from_to start last.book) (beginning start) before front output refused
  pub reply : List ℕ
  pub this : Bool
  pub is_done : IsDone (from_to start last.book) before last action reply this
  pub wrote : GainsPart reply (written.was ++ output) written.now

-- The replies of the actions in front of this one were written. Its transaction has no end in the book; those behind it were not
-- done. The store opens to the book, or to one that begins with it. `Keeps` says how the book stands in the journal, by where the run
-- stood before the action.
pub record IsStopped (faults : Change ℕ) (start : List Entry) (actions : List Action) (written : Change (List ℕ))
    (after : Store) (Keeps : Standing → Action → List Entry → Type 0) : Type 0 where
  pub front : List Action
  pub action : Action
  pub behind : List Action
  pub actions_are : actions ≡ front ++ action ∷ behind
  pub before : Standing
  pub is_before : IsBookOf faults.was faults.now start before.book
  pub book : List Entry
  pub halfway : IsHalfway before action book
  pub output : List ℕ
  pub refused : Bool
  pub are_done : AreDone (from_to start book) (beginning start) before front output refused
  pub wrote : written.now ≡ written.was ++ output
  pub keeps : Keeps before action book
  pub opens : OpensLater book after

-- No action was done, and nothing was written. Where no compaction was at work no file was touched. The store opens again, to the book with
-- a front of its opening.
pub record IsUnopened (book : List Entry) (written : Change (List ℕ)) (stores : Change Store)
    (Keeps : List ℕ → Type 0) : Type 0 where
  pub wrote : written.now ≡ written.was
  pub files : IsIdle book → stores.now.tree ≡ stores.was.tree
  pub keeps : Keeps stores.now.journal
  pub opens : OpensLater book stores.now

-- the journal reads to the book
abbrev pub ReadsTo : List ℕ → Standing → Action → List Entry → Type 0
ReadsTo bytes before action book = Reads book bytes

-- for want of memory
abbrev pub StopsForMemory : Change ℕ → List Entry → List Action → Change (List ℕ) → Change Store → Type 0
StopsForMemory faults before actions written stores =
    IsStopped faults (opening_of stores.was.tree before) actions written stores.now (ReadsTo stores.now.journal)
    ⊎ IsUnopened before written stores (IsCutOpening fault.NoMemory (whole_jobs (state_of before) stores.was.tree)
    before)

-- the journal reads to the book, or to the book and what further entries of a stopped action it may have
abbrev pub ReadsFurther : List ℕ → Standing → Action → List Entry → Type 0
ReadsFurther bytes before action book =
    (further : List Entry) × AreFurther before action book further × ReadsMore book further bytes

-- where the store failed: the journal reads to the book, or to the book with one further entry of the action's transaction, or with the
-- two by which a statement begins
abbrev pub StopsForStore : Change ℕ → List Entry → List Action → Change (List ℕ) → Change Store → Type 0
StopsForStore faults before actions written stores =
    IsStopped faults (opening_of stores.was.tree before) actions written stores.now (ReadsFurther stores.now.journal)
    ⊎ IsUnopened before written stores (IsCutOpening fault.Store (whole_jobs (state_of before) stores.was.tree) before)
