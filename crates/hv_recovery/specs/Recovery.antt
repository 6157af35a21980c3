-- A journal that an earlier run left: the book that it reads to, or the place where it is bad.
-- Source: this project's profile.
use Rattle.std.specs.Prelude.{◌≡◌, ◌≤◌, ℕ, zero, suc, List, [], ◌∷◌, ◌++◌, length}
use Rattle.hv_base.specs.declared.ids.Limits.{Limits}
use Rattle.hv_history.specs.declared.entry.Entry.{Entry}
use Rattle.hv_history.specs.declared.entry.Entry.TheVariants.{Opened}
use Rattle.hv_history.specs.Journal.{record_of, HasRecord, Leads, IsJournal, place_of}
use Rattle.hv_history.specs.State.{State, nothing_yet, state_of}
use Rattle.hv_history.specs.Legal.{Fits, AllFit, IsStatement}
use Rattle.hv_recovery.specs.declared.fault.OpenFault.{OpenFault}
use Rattle.hv_recovery.specs.declared.fault.OpenFault.TheVariants as fault

-- the bytes are the journal of this book, and each of its entries fits the ones before it
pub record IsJournalOf (limits : Limits) (book : List Entry) (bytes : List ℕ) : Type 0 where
  pub journal : IsJournal book bytes
  pub fit : AllFit limits nothing_yet book

-- Behind entries that leave this state there is no gate, or an open one behind which no record stands whose entry fits. So
-- a record that is cut, one that spells no entry, a text that is no statement and an entry out of place are all bad.
abbrev pub IsBadGateFor : Limits → State → List ℕ → Type 0
IsBadGateFor limits state [] = Unit {0}
IsBadGateFor limits state (zero ∷ after) = ⊥
IsBadGateFor limits state (suc gate ∷ after) =
    (e : Entry) (rest : List ℕ) → HasRecord e → after ≡ record_of e ++ rest → Fits limits state e → ⊥

-- The bytes are more than an empty book's; they begin with records up to this place, each behind an open gate and each of
-- an entry that fits; and no good gate stands there.
pub record IsBadJournalAt (limits : Limits) (bytes : List ℕ) (at : ℕ) : Type 0 where
  pub book : List Entry
  pub rest : List ℕ
  pub long : 2 ≤ length bytes
  pub led : Leads book bytes rest
  pub fit : AllFit limits nothing_yet book
  pub place : at ≡ place_of book
  pub bad : IsBadGateFor limits (state_of book) rest

-- ---- answers

-- a fault is true of these bytes
abbrev pub IsFaultFor : Limits → List ℕ → OpenFault → Type 0
IsFaultFor limits bytes (fault.BadJournal at) = IsBadJournalAt limits bytes at
IsFaultFor limits bytes fault.Failed = Unit {0}
IsFaultFor limits bytes fault.NoMemory = Unit {0}

-- a fault that says nothing of the bytes: the store failed, or memory ran out
abbrev pub IsNoAnswer : OpenFault → Type 0
IsNoAnswer (fault.BadJournal at) = ⊥
IsNoAnswer fault.Failed = Unit {0}
IsNoAnswer fault.NoMemory = Unit {0}

-- a text that the entry has is a statement, of a form that runs
abbrev pub HasStatement : Entry → Type 0
HasStatement (Opened txn session number text) = IsStatement text
HasStatement _ = Unit {0}

-- the entry isn't this kind of entry, or memory ran out
abbrev pub IsRefusedAt : Type 0 → ℕ → OpenFault → Type 0
IsRefusedAt Good at (fault.BadJournal found) = (found ≡ at) × (Good → ⊥)
IsRefusedAt Good at fault.Failed = ⊥
IsRefusedAt Good at fault.NoMemory = Unit {0}
