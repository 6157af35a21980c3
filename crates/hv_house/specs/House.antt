-- What a house holds of a store's history: its book, its journal and its files, whatever transactions are open.
use Rattle.std.specs.Prelude.{◌≡◌, ℕ, false, ◌+◌, ◌*◌, ◌^◌, ◌≤◌, Option, List, [], ◌∷◌, ◌++◌, length}
use Rattle.hv_base.specs.Told.{Tells, Moves}
use Rattle.hv_base.specs.declared.ids.Limits.{Limits}
use Rattle.hv_shelf.specs.Disk.{Store}
use Rattle.hv_history.specs.declared.entry.Entry.{Entry}
use Rattle.hv_history.specs.State.{state_of, nothing_yet}
use Rattle.hv_history.specs.Spelling.{entry_spelling}
use Rattle.hv_history.specs.Journal.{place_of}
use Rattle.hv_history.specs.Legal.{IsLegal, Fits, AllFit, profile}
use Rattle.hv_journal.specs.Appending.{Holds, HoldsMore, KeepsTree}
use Rattle.hv_finals.specs.hv_law_made.specs.Standing.{Standing}
use Rattle.hv_stands.specs.Running.{Asking, opening, starting, next_number}
use Rattle.hv_house.specs.declared.fault.HouseFault.{HouseFault}
use Rattle.hv_house.specs.declared.fault.HouseFault.TheVariants as fault
use Rattle.hv_house.specs.declared.house.House.{House}

-- the most bytes of an entry, and of its record with its gate
abbrev pub entry_limit : ℕ
entry_limit = 65536

abbrev pub record_limit : ℕ
record_limit = 65541

abbrev pub IsSmall : Entry → Type 0
IsSmall event = length (entry_spelling event) ≤ entry_limit

-- the most entries that a house's limits allow
abbrev pub book_limit : ℕ
book_limit = 9999999

abbrev pub entries_of : {D : Type 0} → House D → List Entry
entries_of house = house.trail.entries

-- the journal is the book's, its closed gate stands where the house has it, it didn't fail, and memory didn't lack in a publication
pub record IsKept {D : Type 0} (told : D → Option Store) (house : House D) : Type 0 where
  pub place : house.place ≡ place_of (entries_of house)
  pub near : house.place ≤ 2 ^ 62 + length (entries_of house) * record_limit
  pub few : length (entries_of house) ≤ book_limit
  pub reads : Holds (told house.shelf) (entries_of house)
  pub running : house.trail.closed ≡ false
  pub fed : house.trail.starved ≡ false

-- between two calls of a house with these limits: each entry of its book fits, whatever transactions are open
pub record IsReadyWithin {D : Type 0} (limits : Limits) (told : D → Option Store) (house : House D) : Type 0 where
  pub kept : IsKept told house
  pub limits_are : house.limits ≡ limits
  pub within : limits.entries ≤ book_limit
  pub fit : AllFit limits nothing_yet (entries_of house)

abbrev pub IsReady : {D : Type 0} → (D → Option Store) → House D → Type 0
IsReady told house = IsReadyWithin profile told house

-- a legal book whose files stand in the store
pub record IsFaithful (book : List Entry) (store : Store) : Type 0 where
  pub stands : Standing (state_of book) store.tree
  pub legal : IsLegal profile book

-- the store, where it tells, has the files of this book
abbrev pub Shows : {D : Type 0} → (D → Option Store) → House D → List Entry → Type 0
Shows told house book = Tells (told house.shelf) (IsFaithful book)

-- these entries were noted: in the journal and behind the book
pub record AreNoted {D : Type 0} (told : D → Option Store) (events : List Entry) (before now : House D) : Type 0 where
  pub kept : IsKept told now
  pub entries : entries_of now ≡ entries_of before ++ events
  pub tree : Moves KeepsTree (told before.shelf) (told now.shelf)

-- one entry was
abbrev pub IsNoted : {D : Type 0} → (D → Option Store) → Entry → House D → House D → Type 0
IsNoted told event before now = AreNoted told (event ∷ []) before now

-- the entries that begin a statement: its Opened and its Start
abbrev pub beginning_of : List Entry → Asking → List Entry
beginning_of book asking = opening book asking ∷ starting (next_number book) ∷ []

-- both fit, one behind the other
abbrev pub BeginFitsWithin : Limits → List Entry → Asking → Type 0
BeginFitsWithin limits book asking = Fits limits (state_of book) (opening book asking)
    × Fits limits (state_of (book ++ opening book asking ∷ [])) (starting (next_number book))

abbrev pub BeginFits : List Entry → Asking → Type 0
BeginFits book asking = BeginFitsWithin profile book asking

-- the house was only asked: nothing was noted, and the store is as it was
pub record IsAsked {D : Type 0} (told : D → Option Store) (before now : House D) : Type 0 where
  pub store : told now.shelf ≡ told before.shelf
  pub place : now.place ≡ before.place
  pub book : entries_of now ≡ entries_of before

-- only the store changed
pub record IsBeside {D : Type 0} (before now : House D) : Type 0 where
  pub place : now.place ≡ before.place
  pub book : now.trail ≡ before.trail

-- What a call that was to note these entries, and was refused, leaves of the journal: it reads to the book; and where
-- the store failed, to the book or to the book and all of them. No other fault is an answer of such a call.
abbrev pub Leaves : HouseFault → List Entry → Option Store → List Entry → Type 0
Leaves fault.NoMemory events told book = Holds told book
Leaves fault.Store events told book = HoldsMore told book events
Leaves (fault.Failed count) events told book = ⊥

-- the entries weren't noted: the book is as it was, and so are the files
pub record AreHalted {D : Type 0} (told : D → Option Store) (events : List Entry) (why : HouseFault)
    (before now : House D) : Type 0 where
  pub entries : entries_of now ≡ entries_of before
  pub tree : Moves KeepsTree (told before.shelf) (told now.shelf)
  pub leaves : Leaves why events (told now.shelf) (entries_of before)

abbrev pub IsHalted : {D : Type 0} → (D → Option Store) → Entry → HouseFault → House D → House D → Type 0
IsHalted told event why before now = AreHalted told (event ∷ []) why before now

-- the house stays ready where memory lacked
pub record StaysReadyWithin {D : Type 0} (limits : Limits) (told : D → Option Store) (why : HouseFault)
    (now : House D) : Type 0 where
  pub ready : why ≡ fault.NoMemory → IsReadyWithin limits told now

abbrev pub StaysReady : {D : Type 0} → (D → Option Store) → HouseFault → House D → Type 0
StaysReady told why now = StaysReadyWithin profile told why now

-- Behind a fault of a call on files the house is ready, but where the store failed: there it is closed, and its journal reads to the book still.
abbrev pub StaysPutWithin : {D : Type 0} → Limits → (D → Option Store) → HouseFault → House D → Type 0
StaysPutWithin limits told fault.Store now = Holds (told now.shelf) (entries_of now)
StaysPutWithin limits told fault.NoMemory now = IsReadyWithin limits told now
StaysPutWithin limits told (fault.Failed count) now = IsReadyWithin limits told now

abbrev pub StaysPut : {D : Type 0} → (D → Option Store) → HouseFault → House D → Type 0
StaysPut told why now = StaysPutWithin profile told why now

-- the journal is as it was
abbrev pub KeepsJournal : Store → Store → Type 0
KeepsJournal before now = now.journal ≡ before.journal
