-- That each entry which fits keeps the files standing: what holds of every book with jobs, and the laws that are to be proved of it.
use Rattle.std.specs.Prelude.{◌≡◌, ◌⊎◌, ℕ, ◌+◌, ◌<◌, ◌≤◌, true, false, Option, Some, List, [], ◌∷◌, ◌++◌, length, map, filter}
use Rattle.std.specs.List.{AllByRecursion}
use Rattle.std.specs.FinMap as tree
use Rattle.hv_base.specs.declared.ids.Limits.{Limits}
use Rattle.hv_shelf.specs.declared.place.Place.{Place}
use Rattle.hv_shelf.specs.declared.place.DirAt.{DirAt}
use Rattle.hv_shelf.specs.Disk.{Tree, Store, IsFree, IsRenamed}
use Rattle.hv_shelf.specs.Places.{is_in, place_named}
use Rattle.hv_dirs.specs.declared.names.DirName.{DirName}
use Rattle.hv_dirs.specs.declared.names.DirName.TheVariants.{Staged}
use Rattle.hv_dirs.specs.Names.{statement_end, write_end, text_of}
use Rattle.hv_stands.specs.hv_history.specs.declared.entry.Entry.{Entry}
use Rattle.hv_stands.specs.hv_history.specs.declared.entry.Entry.TheVariants as entry
use Rattle.hv_stands.specs.hv_history.specs.declared.state.Ending.{Ending}
use Rattle.hv_stands.specs.hv_history.specs.declared.state.Ending.TheVariants.{Aborted}
use Rattle.hv_stands.specs.hv_history.specs.declared.state.Table.{Table}
use Rattle.hv_stands.specs.hv_history.specs.declared.state.Written.{Written}
use Rattle.hv_stands.specs.hv_history.specs.State.{State, Job, numbered, after, nothing_yet, state_of}
use Rattle.hv_stands.specs.hv_history.specs.Legal.{is_working, Fits, AllFit}
use Rattle.hv_stands.specs.hv_history.specs.Jobs.{pieces_for, is_empty_of}
use Rattle.hv_stands.specs.Files.{ending_of}
use Rattle.hv_stands.specs.Sound.{IsSound}
use Rattle.hv_jobs.specs.Covers.{range_names}
use Rattle.hv_law_jobs.specs.Sound.{AreSoundJobs}
use Rattle.hv_law_made.specs.Made.{is_made, made_recs}
use Rattle.hv_law_made.specs.Named.{AllHaveNames}
use Rattle.hv_law_made.specs.Standing.{Standing}
use Rattle.hv_law_made.specs.Laws.{AsksAt, Holds, ChangesAt, AreButFor, IsFiledFor}
use Rattle.hv_law_visible.specs.Members.{IsIn}

-- ---- books

-- a write's statement has a number that names can say
abbrev pub IsFewStatement : Written → Type 0
IsFewStatement written = written.statement < statement_end

abbrev pub HasFewStatements : Table → Type 0
HasFewStatements table = AllByRecursion IsFewStatement table.writes

-- an id that was forgotten is of a transaction that was aborted
abbrev pub IsAbortedEnd : Option (Option Ending) → Type 0
IsAbortedEnd (Some (Some (Aborted place cause))) = Unit {0}
IsAbortedEnd _ = ⊥

abbrev pub IsOfAborted : List (Option Ending) → List ℕ → ℕ → Type 0
IsOfAborted endings owners write = (txn : ℕ) × (numbered owners write ≡ Some txn) × IsAbortedEnd (numbered endings txn)

abbrev pub ForgetsAborted : List (Option Ending) → Table → Type 0
ForgetsAborted endings table = AllByRecursion (IsOfAborted endings table.owners) table.forgotten

-- what holds of a state without jobs (hv_stands/specs/Sound), and of its jobs and forgotten ids: no more jobs were asked for than there
-- are entries
pub record IsSoundBook (state : State) : Type 0 where
  pub jobs : AreSoundJobs state
  pub few_jobs : length state.jobs ≤ state.entries
  pub base : IsSound state
  pub statements : AllByRecursion HasFewStatements state.tables
  pub forgotten : AllByRecursion (ForgetsAborted (map ending_of state.transactions)) state.tables

abbrev pub BooksGoOn : Type 0
BooksGoOn = (limits : Limits) (state : State) (event : Entry) → Fits limits state event → IsSoundBook state → IsSoundBook (after state event)

-- so it holds of every book whose entries fit
abbrev pub BooksAreSound : Type 0
BooksAreSound = (limits : Limits) (book : List Entry) → AllFit limits nothing_yet book → IsSoundBook (state_of book)

abbrev pub BooksHaveNames : Type 0
BooksHaveNames = (state : State) → state.entries < write_end → IsSoundBook state → AllHaveNames state

-- ---- one law for every entry

-- What an entry changes at a place, whatever stands there: what was made stays, and what is made anew, may not hold anything any more, or is
-- said to be removed, is of the places that it asks of.
abbrev pub EntriesChange : Type 0
EntriesChange =
    (limits : Limits) (state : State) (event : Entry)
    → Fits limits state event → state.entries + 1 < write_end → IsSoundBook state → ChangesAt state (after state event) (AsksAt event state)

-- What an entry asks of may have come just before it: nothing is said of `before` there.
abbrev pub StandingGoesOn : Type 0
StandingGoesOn =
    (limits : Limits) (state : State) (event : Entry) (before files : Tree)
    → Fits limits state event → state.entries + 1 < write_end → IsSoundBook state
    → AreButFor (AsksAt event state) before files → IsFiledFor event state files → Standing state before → Standing (after state event) files

-- ---- publications: staged directories get their names, and then the book is told

-- the entry with which a job would be published now
abbrev pub publishing : State → ℕ → Job → Entry
publishing state number job =
    entry.Published (record { 0 = number }) (record { 0 = (pieces_for state job).low }) (record { 0 = (pieces_for state job).high })
    (record { 0 = length state.transactions + 1 })

-- the directories that it would make then, of a table with these writes
abbrev pub finals : State → Job → List Written → List DirName
finals state job writes =
    filter (is_made writes job.partition) (range_names job.kind (pieces_for state job).low (pieces_for state job).high)

abbrev pub dir_of : Job → List ℕ → DirAt
dir_of job text = record { table = record { 0 = job.table }; partition = job.partition; dir = text }

-- under which name its files stand before
abbrev pub staged_text : ℕ → DirName → List ℕ
staged_text number name = text_of (Staged (record { 0 = number }) (text_of name))

-- a job at work of a live table, with something to merge
pub record IsAtWork (state : State) (number : ℕ) (job : Job) : Type 0 where
  pub is : numbered state.jobs number ≡ Some job
  pub working : is_working job ≡ true
  pub table : Table
  pub table_is : numbered state.tables job.table ≡ Some table
  pub live : table.is_live ≡ true
  pub some : is_empty_of job.kind (pieces_for state job) ≡ false

-- each of its staged directories has just the files that its final one is to have
abbrev pub AreStaged : State → ℕ → Job → List DirName → Tree → Type 0
AreStaged state number job names files =
    (name : DirName) (place : Place) → IsIn name names → is_in (dir_of job (text_of name)) place ≡ true
    → Holds (made_recs (after state (publishing state number job)) place) place.bucket (tree.get files (place_named place (staged_text number name)))

-- one after another they get their names
abbrev pub AreRenamed : ℕ → Job → List DirName → Store → Store → Type 0
AreRenamed number job [] before now = before.tree ≡ now.tree
AreRenamed number job (name ∷ names) before now =
    (middle : Store) × IsRenamed (dir_of job (staged_text number name)) (text_of name) before middle × AreRenamed number job names middle now

-- then the book may be told: law StandingGoesOn says what stands behind that
pub record IsReady (state : State) (number : ℕ) (job : Job) (files : Tree) : Type 0 where
  pub before : Tree
  pub standing : Standing state before
  pub but : AreButFor (AsksAt (publishing state number job) state) before files
  pub filed : IsFiledFor (publishing state number job) state files

abbrev pub RenamesStand : Type 0
RenamesStand =
    (state : State) (number : ℕ) (job : Job) (before now : Store) (work : IsAtWork state number job)
    → state.entries + 1 < write_end → IsSoundBook state → AreStaged state number job (finals state job work.table.writes) before.tree
    → Standing state before.tree → AreRenamed number job (finals state job work.table.writes) before now → IsReady state number job now.tree

-- ---- what an opening finds where a run ended in the middle of that

-- the place is in a directory that some job at work is to make
pub record IsFinalAt (state : State) (place : Place) : Type 0 where
  pub number : ℕ
  pub job : Job
  pub work : IsAtWork state number job
  pub final : AsksAt (publishing state number job) state place

-- one of the directories that it is to make has no file
pub record HasBareFinal (state : State) (job : Job) (writes : List Written) (files : Tree) : Type 0 where
  pub name : DirName
  pub among : IsIn name (finals state job writes)
  pub bare : IsFree (dir_of job (text_of name)) files

-- But for such directories all stands, and of each job at work its directories stand whole, or one of them has no file.
pub record Recovers (state : State) (files : Tree) : Type 0 where
  pub before : Tree
  pub standing : Standing state before
  pub but : AreButFor (IsFinalAt state) before files
  pub each : (number : ℕ) (job : Job) (work : IsAtWork state number job)
      → IsFiledFor (publishing state number job) state files ⊎ HasBareFinal state job work.table.writes files

-- a front of the renames leaves that
abbrev pub FrontsRecover : Type 0
FrontsRecover =
    (state : State) (number : ℕ) (job : Job) (before now : Store) (done rest : List DirName) (work : IsAtWork state number job)
    → state.entries + 1 < write_end → IsSoundBook state → finals state job work.table.writes ≡ done ++ rest
    → AreStaged state number job (finals state job work.table.writes) before.tree
    → Standing state before.tree → AreRenamed number job done before now → Recovers state now.tree

-- Of a job whose directories stand whole the opening tells the book; of another one they go, and it has failed.
abbrev pub RecoveredGoOn : Type 0
RecoveredGoOn =
    (state : State) (number : ℕ) (job : Job) (files : Tree) → IsAtWork state number job
    → IsFiledFor (publishing state number job) state files → Recovers state files → state.entries + 1 < write_end → IsSoundBook state
    → Recovers (after state (publishing state number job)) files
