-- What a store's journal holds, where the store tells it.
use Rattle.std.specs.Prelude.{◌≡◌, ◌⊎◌, ◌≤◌, ℕ, Option, List, ◌++◌, length}
use Rattle.hv_base.specs.Told.{Tells}
use Rattle.hv_shelf.specs.Disk.{Store}
use Rattle.hv_history.specs.declared.entry.Entry.{Entry}
use Rattle.hv_history.specs.Journal.{Reads}

-- the journal reads to the book
abbrev pub Holds : Option Store → List Entry → Type 0
Holds told book = Tells told (λ s. Reads book s.journal)

-- the bytes read to the book, or to the book and all of these entries behind it
abbrev pub ReadsMore : List Entry → List Entry → List ℕ → Type 0
ReadsMore book more bytes = Reads book bytes ⊎ Reads (book ++ more) bytes

-- the same of a store's journal: what a failure may leave where these entries were being appended
abbrev pub HoldsMore : Option Store → List Entry → List Entry → Type 0
HoldsMore told book more = Tells told (λ s. ReadsMore book more s.journal)

abbrev pub KeepsTree : Store → Store → Type 0
KeepsTree before now = now.tree ≡ before.tree

-- an empty journal, of no byte or of one, is as short as that
abbrev pub StaysShort : Store → Store → Type 0
StaysShort before now = length before.journal ≤ 1 → length now.journal ≤ 1
