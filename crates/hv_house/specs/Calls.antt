-- The calls that note one entry of a transaction by its name: when each is refused, and what it leaves.
use Rattle.std.specs.Prelude.{◌≡◌, ℕ, ◌+◌, ◌<◌, ◌≤◌, Option, Some, None, IsTrue, IsSomeAnd, IsNone, List, length, Result, Ok, Err, IfOk, IfErr}
use Rattle.hv_base.specs.declared.ids.TxnId.{TxnId}
use Rattle.hv_base.specs.declared.ids.TableId.{TableId}
use Rattle.hv_base.specs.declared.ids.Limits.{Limits}
use Rattle.hv_base.specs.Told.{Moves, StaysTold}
use Rattle.hv_shelf.specs.Disk.{Store}
use Rattle.hv_history.specs.declared.entry.Entry.{Entry}
use Rattle.hv_history.specs.declared.entry.Entry.TheVariants as entry
use Rattle.hv_history.specs.declared.state.Transaction.{Transaction}
use Rattle.hv_history.specs.State.{State, numbered, given_in, state_of}
use Rattle.hv_history.specs.Legal.{is_open, load, Of, IsRunning, IsWaiting, IsUnlocked}
use Rattle.hv_book.specs.Past.{owners_in}
use Rattle.hv_recovery.specs.hv_fits.specs.hv_meta.specs.declared.facts.TxnState.{TxnState}
use Rattle.hv_recovery.specs.hv_fits.specs.hv_meta.specs.declared.facts.TxnState.TheVariants as txn_state
use Rattle.hv_recovery.specs.hv_fits.specs.hv_meta.specs.States.{state_in}
use Rattle.hv_journal.specs.Appending.{KeepsTree}
use Rattle.hv_trail.specs.Steps.{Note, Outcome, Done, Refused, Step}
use Rattle.hv_house.specs.declared.house.House.{House}
use Rattle.hv_house.specs.declared.calls.EntryFault.{EntryFault}
use Rattle.hv_house.specs.declared.calls.EntryFault.TheVariants as fault
use Rattle.hv_house.specs.Faults.{HasRisen, EndsRun}
use Rattle.hv_house.specs.House.{IsReadyWithin, StaysReadyWithin, IsNoted, IsHalted}
use Rattle.hv_house.specs.Steps.{seen_of, fault_outcome}

-- ---- whether the transaction is open, and whether there is room

-- the place of the entry that ended it
abbrev pub place_ended : TxnState → Option ℕ
place_ended txn_state.Unknown = None
place_ended (txn_state.Running started) = None
place_ended (txn_state.Ended at) = Some at

-- the entry at this place of the book ended the transaction of that number
abbrev pub HasEndedAt : List Entry → ℕ → ℕ → Type 0
HasEndedAt book txn at = place_ended (state_in (state_of book) txn) ≡ Some at

-- none did
abbrev pub HasNotEnded : List Entry → ℕ → Type 0
HasNotEnded book txn = place_ended (state_in (state_of book) txn) ≡ None

-- the transaction isn't ended, and there is no room for one entry more of a book with so many
pub record HasNoRoom (limits : Limits) (book : List Entry) (txn entries : ℕ) : Type 0 where
  pub unended : HasNotEnded book txn
  pub count : entries ≡ length book
  pub full : limits.entries < load (state_of book) + 1

-- there is no room for so many of the load more of a book with so many entries
pub record LacksRoom (limits : Limits) (book : List Entry) (more entries : ℕ) : Type 0 where
  pub count : entries ≡ length book
  pub full : limits.entries < load (state_of book) + more

-- the transaction of that number has an Opened, and where it is open the fact holds of it
abbrev pub IfOpen : State → ℕ → (Transaction → Type 0) → Type 0
IfOpen state txn P = Of state txn (λ t. IsTrue (is_open t) → P t)

-- ---- the entries

-- the write id that a table gives next
abbrev pub next_id : List Entry → ℕ → ℕ
next_id book table = length (owners_in (numbered (state_of book).tables table)) + 1

abbrev pub next_given : List Entry → TxnId → TableId → Entry
next_given book txn table = entry.Given txn table (record { 0 = next_id book table.0 })

-- a transaction may be given a write id of this table, where there is room
pub record CanBeGiven (state : State) (table : ℕ) (transaction : Transaction) : Type 0 where
  pub running : IsRunning transaction
  pub live : IsSomeAnd (numbered state.tables table) (λ t. IsTrue t.is_live)
  pub first : IsNone (given_in table transaction.given)

-- a transaction may start, where there is room: it was opened and hasn't started, and no lock is held against its statement
pub record CanStart (state : State) (transaction : Transaction) : Type 0 where
  pub waiting : IsWaiting transaction
  pub unlocked : IsUnlocked state transaction

-- the number of the table that is made next
abbrev pub next_table : List Entry → ℕ
next_table book = length (state_of book).tables + 1

abbrev pub next_create : List Entry → TxnId → Entry
next_create book txn = entry.Create txn (record { 0 = next_table book })

-- ---- what a call leaves

abbrev pub entry_outcome : {T : Type 0} → Result T EntryFault → Outcome
entry_outcome (Ok x) = Done
entry_outcome (Err (fault.NotOpen at)) = Refused
entry_outcome (Err (fault.Full entries)) = Refused
entry_outcome (Err (fault.House why)) = fault_outcome why

-- a house that refuses an entry itself is as it was; where it failed, as a note of the entry leaves it
abbrev pub IsNotNoted : {D : Type 0} → (D → Option Store) → Entry → EntryFault → House D → House D → Type 0
IsNotNoted told event (fault.NotOpen at) before now = now ≡ before
IsNotNoted told event (fault.Full entries) before now = now ≡ before
IsNotNoted told event (fault.House why) before now = IsHalted told event why before now

abbrev pub StaysOpenWithin : {D : Type 0} → Limits → (D → Option Store) → EntryFault → House D → Type 0
StaysOpenWithin limits told (fault.NotOpen at) now = IsReadyWithin limits told now
StaysOpenWithin limits told (fault.Full entries) now = IsReadyWithin limits told now
StaysOpenWithin limits told (fault.House why) now = StaysReadyWithin limits told why now

-- the fault is one of the house, and the entry itself wasn't refused
abbrev pub IsHouseFault : EntryFault → Type 0
IsHouseFault (fault.House why) = Unit {0}
IsHouseFault _ = ⊥

-- no fault of a file is an answer
abbrev pub IsEntryFault : EntryFault → Type 0
IsEntryFault (fault.House why) = EndsRun why
IsEntryFault _ = Unit {0}

-- a fault of the store has its cause
abbrev pub HasRisenNoting : ℕ → ℕ → EntryFault → Type 0
HasRisenNoting faults faults' (fault.House why) = HasRisen faults faults' why
HasRisenNoting faults faults' _ = Unit {0}

-- all that is promised of a call that notes this entry
pub record EntryStepWithin {D T : Type 0} (limits : Limits) (told : D → Option Store) (faults : D → ℕ) (event : Entry)
    (before now : House D) (result : Result T EntryFault) : Type 0 where
  pub ready : IfOk result (λ _. IsReadyWithin limits told now)
  pub noted : IfOk result (λ _. IsNoted told event before now)
  pub stays : IfErr result (λ why. StaysOpenWithin limits told why now)
  pub halted : IfErr result (λ why. IsNotNoted told event why before now)
  pub ends : IfErr result IsEntryFault
  pub tree_kept : Moves KeepsTree (told before.shelf) (told now.shelf)
  pub tells : StaysTold (told before.shelf) (told now.shelf)
  pub step : Step told faults (Note event) (entry_outcome result) (seen_of before) (seen_of now)
  pub later : faults before.shelf ≤ faults now.shelf
  pub failed : IfErr result (HasRisenNoting (faults before.shelf) (faults now.shelf))
