-- How a store is opened.
use Rattle.std.specs.Prelude.{◌≡◌, ◌⊎◌, ℕ, Bool, true, false, ◌+◌, ◌<◌, ◌≤◌, Option, List, [], ◌∷◌, ◌++◌, length, map, fold, sum_by, Result, OnOk, OnErr, IfErr, IsErrOf}
use Rattle.hv_base.specs.declared.ids.Limits.{Limits}
use Rattle.hv_base.specs.Told.{Tells, Moves}
use Rattle.hv_base.specs.Faults.{Rose}
use Rattle.hv_shelf.specs.declared.fault.ShelfFault.{ShelfFault}
use Rattle.hv_shelf.specs.declared.fault.ShelfFault.TheVariants as disk
use Rattle.hv_shelf.specs.Disk.{Store, Tree}
use Rattle.hv_history.specs.declared.entry.Entry.{Entry}
use Rattle.hv_history.specs.declared.entry.Entry.TheVariants.{Boot, Abort}
use Rattle.hv_history.specs.declared.entry.Cause.TheVariants.{Lost}
use Rattle.hv_history.specs.State.{State, nothing_yet, after, state_of}
use Rattle.hv_history.specs.Journal.{IsJournal}
use Rattle.hv_history.specs.Legal.{is_open, working_one, load, HasRoom, AllFit, IsLegal, profile}
use Rattle.hv_journal.specs.Appending.{KeepsTree}
use Rattle.hv_finals.specs.hv_law_made.specs.Entries.{Recovers}
use Rattle.hv_finals.specs.hv_law_made.specs.Opening.{whole_jobs, job_ends}
use Rattle.hv_finals.specs.hv_law_made.specs.Standing.{Standing}
use Rattle.hv_recovery.specs.Recovery.{IsJournalOf, IsBadJournalAt}
use Rattle.hv_recovery.specs.declared.fault.OpenFault.{OpenFault}
use Rattle.hv_recovery.specs.declared.fault.OpenFault.TheVariants as opening
use Rattle.hv_house.specs.declared.fault.HouseFault.{HouseFault}
use Rattle.hv_house.specs.declared.fault.HouseFault.TheVariants as house
use Rattle.hv_house.specs.declared.boot.BootFault.{BootFault}
use Rattle.hv_house.specs.declared.boot.BootFault.TheVariants as fault
use Rattle.hv_house.specs.declared.house.House.{House}
use Rattle.hv_house.specs.declared.boot.Left.{Left}
use Rattle.hv_house.specs.House.{entries_of, IsKept, IsReadyWithin, Leaves}
use Rattle.hv_house.specs.Steps.{KeepsMarks, IsOpenedOver}
use Rattle.hv_house.specs.Ending.{OpeningCause, EndsBoot, Gauge, EndsGo, EndsStop, IsCutBefore}

-- ---- the opening of a book

abbrev pub number_next : Bool → ℕ → List ℕ → List ℕ
number_next true number more = number ∷ more
number_next false number more = more

-- the numbers of those that are marked, where the first one's is given
abbrev pub marked_from : ℕ → List Bool → List ℕ
marked_from number [] = []
marked_from number (mark ∷ marks) = number_next mark number (marked_from (number + 1) marks)

-- the numbers of the transactions that are open
abbrev pub open_numbers : State → List ℕ
open_numbers state = marked_from 1 (map is_open state.transactions)

abbrev pub lost_entry : ℕ → Entry
lost_entry number = Abort (record { 0 = number }) Lost

-- a Boot, and each transaction that an earlier run left open is aborted as lost
abbrev pub lost_entries : State → List Entry
lost_entries state = Boot state.openings.count ∷ map lost_entry (open_numbers state)

-- Then each compaction that it left at work ends, by number: of these numbers, those whose directories are all listed are published.
abbrev pub opening_entries : List ℕ → State → List Entry
opening_entries whole state = lost_entries state ++ job_ends whole (fold after state (lost_entries state)) 1 state.jobs

-- the book with its opening
abbrev pub opening_with : List ℕ → List Entry → List Entry
opening_with whole book = book ++ opening_entries whole (state_of book)

-- over these files
abbrev pub opening_of : Tree → List Entry → List Entry
opening_of files book = opening_with (whole_jobs (state_of book) files) book

-- What a run within these limits leaves, wherever it ended: a legal book whose files stand, but for final directories of compactions at work.
pub record IsLeftWithin (limits : Limits) (book : List Entry) (store : Store) : Type 0 where
  pub recovers : Recovers (state_of book) store.tree
  pub legal : IsLegal limits book

-- A store that opens: its journal reads to this legal book, and its files are what a run leaves.
pub record OpensWithin (limits : Limits) (book : List Entry) (store : Store) : Type 0 where
  pub journal : IsJournal book store.journal
  pub left : IsLeftWithin limits book store

abbrev pub OpensTo : List Entry → Store → Type 0
OpensTo book store = OpensWithin profile book store

-- No compaction is at work in it: then an opening changes no file.
abbrev pub IsIdle : List Entry → Type 0
IsIdle book = sum_by working_one (state_of book).jobs ≡ 0

-- ---- why a store isn't opened

abbrev pub boot_fault : HouseFault → BootFault
boot_fault house.Store = fault.Store
boot_fault (house.Failed count) = fault.Store
boot_fault house.NoMemory = fault.NoMemory

abbrev pub open_fault : OpenFault → BootFault
open_fault (opening.BadJournal at) = fault.BadJournal at
open_fault opening.Failed = fault.Store
open_fault opening.NoMemory = fault.NoMemory

abbrev pub look_fault : ShelfFault → BootFault
look_fault disk.Failed = fault.Store
look_fault disk.NoMemory = fault.NoMemory

abbrev pub IsBootStore : BootFault → Type 0
IsBootStore fault.Store = Unit {0}
IsBootStore _ = ⊥

-- the journal has no room for its opening
pub record IsFullAt (limits : Limits) (entries : ℕ) (bytes : List ℕ) : Type 0 where
  pub book : List Entry
  pub reads : IsJournalOf limits book bytes
  pub count : entries ≡ length book
  pub full : limits.entries < load (state_of book) + 1

-- the journal reads to this book, whose entries fit, and has room for its opening
pub record CanOpenAs (limits : Limits) (book : List Entry) (store : Store) : Type 0 where
  pub reads : IsJournalOf limits book store.journal
  pub room : HasRoom limits (state_of book) 1

abbrev pub CanOpen : Limits → Store → Type 0
CanOpen limits store = (book : List Entry) × CanOpenAs limits book store

-- the journal reads to no book whose entries fit; the book that it reads to has no room for its opening
abbrev pub HasNoBook : Limits → Store → Type 0
HasNoBook limits store = (book : List Entry) → IsJournalOf limits book store.journal → ⊥

abbrev pub HasFullBook : Limits → Store → Type 0
HasFullBook limits store = (book : List Entry) → IsJournalOf limits book store.journal
    → limits.entries < load (state_of book) + 1

-- a journal that is bad, and one that is full, are left as they are, and no other is called so
abbrev pub IsBootFault : Limits → Option Store → Option Store → BootFault → Type 0
IsBootFault limits before now (fault.BadJournal at) =
    (now ≡ before) × Tells before (λ s. IsBadJournalAt limits s.journal at) × Tells before (HasNoBook limits)
IsBootFault limits before now (fault.Full entries) =
    (now ≡ before) × Tells before (λ s. IsFullAt limits entries s.journal) × Tells before (HasFullBook limits)
IsBootFault limits before now _ = Unit {0}

-- the journal reads to this book, or, where the store failed, to it and the next of these entries
abbrev pub LeavesFront : BootFault → List Entry → List Entry → List ℕ → Type 0
LeavesFront fault.Store book more bytes =
    IsJournal book bytes ⊎ ((e : Entry) × (rest : List Entry) × (more ≡ e ∷ rest) × IsJournal (book ++ e ∷ []) bytes)
LeavesFront _ book more bytes = IsJournal book bytes

-- the book with a front of these entries
pub record IsCutShort (why : BootFault) (book opening : List Entry) (bytes : List ℕ) : Type 0 where
  pub front : List Entry
  pub more : List Entry
  pub parts : opening ≡ front ++ more
  pub leaves : LeavesFront why (book ++ front) more bytes

-- what an opening that stopped leaves of a journal that read to this book, where these compactions are whole
abbrev pub IsCutOpening : BootFault → List ℕ → List Entry → List ℕ → Type 0
IsCutOpening why whole book bytes = IsCutShort why book (opening_entries whole (state_of book)) bytes

abbrev pub CutsOpening : HouseFault → List Entry → List Entry → Option Store → Type 0
CutsOpening why book opening told = Tells told (λ s. IsCutShort (boot_fault why) book opening s.journal)

-- the journal read to a book whose entries fit, and a front of its opening was noted
abbrev pub StopsOpening : Limits → Option Store → Option Store → BootFault → Type 0
StopsOpening limits before now why =
    Moves (λ s t. (book : List Entry) → IsJournalOf limits book s.journal
    → IsCutOpening why (whole_jobs (state_of book) s.tree) book t.journal) before now

-- The store opens still, to this book, or, where the store failed, to it or to it and the next of these entries.
abbrev pub LeavesOpen : Limits → BootFault → List Entry → List Entry → Store → Type 0
LeavesOpen limits fault.Store book more store =
    OpensWithin limits book store ⊎ ((e : Entry) × (rest : List Entry) × (more ≡ e ∷ rest)
    × OpensWithin limits (book ++ e ∷ []) store)
LeavesOpen limits _ book more store = OpensWithin limits book store

-- to the book with a front of its opening
pub record IsOpenStill (limits : Limits) (why : BootFault) (book opening : List Entry) (store : Store) : Type 0 where
  pub front : List Entry
  pub more : List Entry
  pub parts : opening ≡ front ++ more
  pub leaves : LeavesOpen limits why (book ++ front) more store

-- so it is of an opening that stopped over a store that opens
abbrev pub StopsOpen : Limits → Option Store → Option Store → BootFault → Type 0
StopsOpen limits before now why =
    Moves (λ s t. (book : List Entry) → OpensWithin limits book s
    → IsOpenStill limits why book (opening_entries (whole_jobs (state_of book) s.tree) (state_of book)) t)
    before now

-- where it was opened, all files of its book stand; where no compaction was at work, they are as they were
abbrev pub OpensWhole : Limits → List Entry → Option Store → Option Store → Type 0
OpensWhole limits now before after_ =
    Moves (λ s t. (book : List Entry) → OpensWithin limits book s → Standing (state_of now) t.tree) before after_

abbrev pub KeepsIdle : Limits → Option Store → Option Store → Type 0
KeepsIdle limits before now = Moves (λ s t. (book : List Entry) → IsJournalOf limits book s.journal → IsIdle book
    → KeepsTree s t) before now

-- The journal reads to this book, as it did before its opening, or the limits have room for the whole opening: where they haven't, nothing of it is noted.
abbrev pub NotesWithRoom : Limits → List Entry → List ℕ → Type 0
NotesWithRoom limits book bytes = IsJournal book bytes ⊎ HasRoom limits (state_of book) 1

-- so it is of an opening that stopped, for the book that the journal read to
abbrev pub StopsWithRoom : Limits → Option Store → Option Store → Type 0
StopsWithRoom limits before now = Moves (λ s t. (book : List Entry) → IsJournalOf limits book s.journal
    → NotesWithRoom limits book t.journal) before now

-- some of these transactions were aborted as lost, and the next one wasn't
pub record LosesSome {D : Type 0} (told : D → Option Store) (why : HouseFault) (open_ : List ℕ) (before now : House D) :
    Type 0 where
  pub lost : List ℕ
  pub next : ℕ
  pub more : List ℕ
  pub parts : open_ ≡ lost ++ next ∷ more
  pub entries : entries_of now ≡ entries_of before ++ map lost_entry lost
  pub leaves : Leaves why (lost_entry next ∷ []) (told now.shelf) (entries_of now)

-- a book that was read has no room for its opening
abbrev pub IsRaiseFault : Limits → List Entry → Option Store → Option Store → BootFault → Type 0
IsRaiseFault limits book before now (fault.BadJournal at) = ⊥
IsRaiseFault limits book before now (fault.Full entries) = (now ≡ before) × (entries ≡ length book)
    × (limits.entries < load (state_of book) + 1)
IsRaiseFault limits book before now _ = Unit {0}

-- what is learned of a book
pub record IsLearned (book : List Entry) (found : Left) : Type 0 where
  pub runs : found.runs ≡ (state_of book).openings.count
  pub open_are : found.unended.items ≡ open_numbers (state_of book)

-- The book of an opened store is one that its journal read to, with its opening: these compactions were whole, by the files that it told.
pub record IsOpening (limits : Limits) (told : Option Store) (book now : List Entry) : Type 0 where
  pub fit : AllFit limits nothing_yet book
  pub room : HasRoom limits (state_of book) 1
  pub reads : Tells told (λ s. IsJournalOf limits book s.journal)
  pub whole : List ℕ
  pub whole_are : Tells told (λ s. whole ≡ whole_jobs (state_of book) s.tree)
  pub now_is : now ≡ opening_with whole book

abbrev pub Opens : Limits → Option Store → List Entry → Type 0
Opens limits told now = (book : List Entry) × IsOpening limits told book now

-- ---- the steps of an opening

-- the book with the Boot of its opening, and the aborts
abbrev pub lost_book : List Entry → List Entry
lost_book book = book ++ lost_entries (state_of book)

-- its files, behind the end of each job
abbrev pub OpeningGoes : List ℕ → List Entry → Store → Store → Type 0
OpeningGoes whole book before now = EndsGo whole (lost_book book) before now

-- It stopped before the first job.
pub record StopsEarly (book : List Entry) (before now : Store) : Type 0 where
  pub front : List Entry
  pub more : List Entry
  pub parts : lost_entries (state_of book) ≡ front ++ more
  pub journal : IsJournal (book ++ front) now.journal
  pub tree_is : now.tree ≡ before.tree

abbrev pub OpeningStops : List ℕ → List Entry → Store → Store → Type 0
OpeningStops whole book before now = StopsEarly book before now ⊎ EndsStop whole (lost_book book) before now

-- The opening is noted, of a book that was read.
pub record OpeningStep {D : Type 0} (gauge : Gauge D) (whole : List ℕ) (before now : House D)
    (result : Result (Unit {0}) BootFault) : Type 0 where
  pub kept : OnOk result (IsKept gauge.told now)
  pub entries : OnOk result (entries_of now ≡ opening_with whole (entries_of before))
  pub went : OnOk result (Moves (OpeningGoes whole (entries_of before)) (gauge.told before.shelf)
      (gauge.told now.shelf))
  pub stops : OnErr result (Moves (OpeningStops whole (entries_of before)) (gauge.told before.shelf)
      (gauge.told now.shelf))
  pub ends : IfErr result EndsBoot
  pub marks : KeepsMarks before now
  pub cause : OpeningCause (IsErrOf result fault.Store)
      (Tells (gauge.told now.shelf) (λ t. IsCutBefore (entries_of before)
      (opening_entries whole (state_of (entries_of before))) t.journal)) (gauge.faults before.shelf)
      (gauge.faults now.shelf) (gauge.hard before.shelf) (gauge.hard now.shelf)

-- A store whose journal was read, and the book that it reads to.
pub record BookRead (D : Type 0) : Type 0 where
  pub shelf : D
  pub book : List Entry

abbrev pub read_to : {D : Type 0} → D → List Entry → BookRead D
read_to shelf book = record { shelf = shelf; book = book }

-- The house is open over this store, in whose book these jobs were whole.
pub record IsRaised {D : Type 0} (gauge : Gauge D) (limits : Limits) (start : D) (read : BookRead D) (whole : List ℕ)
    (now : House D) : Type 0 where
  pub ready : IsReadyWithin limits gauge.told now
  pub entries : entries_of now ≡ opening_with whole read.book
  pub went : Moves (OpeningGoes whole read.book) (gauge.told read.shelf) (gauge.told now.shelf)
  pub over : IsOpenedOver start now
  pub later : gauge.faults read.shelf ≤ gauge.faults now.shelf
  pub hard_later : gauge.hard read.shelf ≤ gauge.hard now.shelf

-- It isn't: the opening stopped.
pub record HasStopped {D : Type 0} (gauge : Gauge D) (shelf : D) (book : List Entry) (whole : List ℕ)
    (given : BootFault × D) : Type 0 where
  pub stops : Moves (OpeningStops whole book) (gauge.told shelf) (gauge.told given.1)
  pub ends : EndsBoot given.0
  pub cause : OpeningCause (given.0 ≡ fault.Store) (Tells (gauge.told given.1)
      (λ t. IsCutBefore book (opening_entries whole (state_of book)) t.journal)) (gauge.faults shelf)
      (gauge.faults given.1) (gauge.hard shelf) (gauge.hard given.1)

-- by the jobs that its files show whole
pub record IsRaisedOver {D : Type 0} (gauge : Gauge D) (limits : Limits) (start : D) (read : BookRead D)
    (now : House D) : Type 0 where
  pub whole : List ℕ
  pub whole_are : Tells (gauge.told read.shelf) (λ s. whole ≡ whole_jobs (state_of read.book) s.tree)
  pub room : HasRoom limits (state_of read.book) 1
  pub raised : IsRaised gauge limits start read whole now

abbrev pub CutsBefore : List Entry → Option Store → Option Store → Type 0
CutsBefore book before now = Moves (λ s t. IsCutBefore book
    (opening_entries (whole_jobs (state_of book) s.tree) (state_of book)) t.journal) before now

pub record StopsOver {D : Type 0} (gauge : Gauge D) (shelf : D) (book : List Entry)
    (given : BootFault × D) : Type 0 where
  pub stops : Moves (λ s t. OpeningStops (whole_jobs (state_of book) s.tree) book s t) (gauge.told shelf)
      (gauge.told given.1)
  pub cause : OpeningCause (given.0 ≡ fault.Store) (CutsBefore book (gauge.told shelf) (gauge.told given.1))
      (gauge.faults shelf) (gauge.faults given.1) (gauge.hard shelf) (gauge.hard given.1)

-- ---- the hard count of an opening

-- The journal reads to a front of its opening, with one more entry to come: so it is where a call on files failed before that.
abbrev pub IsCutShortOf : Limits → Option Store → Option Store → Type 0
IsCutShortOf limits before now =
    Moves (λ s t. (book : List Entry) → IsJournalOf limits book s.journal
    → IsCutBefore book (opening_entries (whole_jobs (state_of book) s.tree) (state_of book)) t.journal) before now

-- It doesn't fall; where the store failed it rose, or the opening stopped so.
pub record OpeningHard (limits : Limits) (before now : Option Store) (hard hard' : ℕ) (Fails : Type 0) : Type 0 where
  pub later : hard ≤ hard'
  pub failed : Fails → Rose hard hard' ⊎ IsCutShortOf limits before now
