-- What a fault of a call below is called in the answer.
use Rattle.hv_shelf.specs.declared.fault.ShelfFault.{ShelfFault}
use Rattle.hv_shelf.specs.declared.fault.ShelfFault.TheVariants as store
use Rattle.hv_journal.specs.declared.fault.JournalFault.{JournalFault}
use Rattle.hv_journal.specs.declared.fault.JournalFault.TheVariants as gate
use Rattle.std.specs.Prelude.{ℕ}
use Rattle.hv_reading.specs.declared.fault.TextFault.{TextFault}
use Rattle.hv_reading.specs.declared.fault.TextFault.TheVariants as text
use Rattle.hv_recovery.specs.declared.fault.OpenFault.{OpenFault}
use Rattle.hv_recovery.specs.declared.fault.OpenFault.TheVariants as fault

abbrev pub of_store : ShelfFault → OpenFault
of_store store.Failed = fault.Failed
of_store store.NoMemory = fault.NoMemory

abbrev pub of_gate : JournalFault → OpenFault
of_gate (gate.BadJournal at) = fault.BadJournal at
of_gate gate.NoMemory = fault.NoMemory

-- a text that is no statement makes the gate bad
abbrev pub of_text : ℕ → TextFault → OpenFault
of_text at text.NoMemory = fault.NoMemory
of_text at _ = fault.BadJournal at
