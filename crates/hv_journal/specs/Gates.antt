-- What stands at a gate of the journal.
use Rattle.std.specs.Prelude.{◌≡◌, ◌≢◌, ℕ, List, ◌∷◌, ◌++◌}
use Rattle.hv_history.specs.declared.entry.Entry.{Entry}
use Rattle.hv_history.specs.Journal.{record_of, HasRecord, IsBadGate, IsBadAt}
use Rattle.hv_journal.specs.declared.fault.JournalFault.{JournalFault}
use Rattle.hv_journal.specs.declared.fault.JournalFault.TheVariants as fault

abbrev pub IsClosed : List ℕ → Type 0
IsClosed rest = (after : List ℕ) × (rest ≡ 0 ∷ after)

-- an open gate, the entry's record and the bytes behind it
pub record Opens (rest : List ℕ) (e : Entry) (after : List ℕ) : Type 0 where
  pub gate : ℕ
  pub open_gate : gate ≢ 0
  pub has : HasRecord e
  pub parts : rest ≡ gate ∷ (record_of e ++ after)

-- the gate at this place is bad, or memory ran out
abbrev pub IsFaultOf : List ℕ → ℕ → JournalFault → Type 0
IsFaultOf rest at (fault.BadJournal found) = (found ≡ at) × IsBadGate rest
IsFaultOf rest at fault.NoMemory = Unit {0}

-- a journal's fault is true of these bytes
abbrev pub IsFaultIn : List ℕ → JournalFault → Type 0
IsFaultIn bytes (fault.BadJournal at) = IsBadAt bytes at
IsFaultIn bytes fault.NoMemory = Unit {0}
