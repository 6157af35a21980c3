-- What can be written, and the bytes of entries that are appended at once.
use Rattle.std.specs.Prelude.{◌<◌, ◌^◌, ℕ, List, ◌∷◌, ◌++◌, length}
use Rattle.std.specs.List.{flat_map}
use Rattle.hv_base.specs.declared.ids.Touch.{Touch}
use Rattle.hv_history.specs.declared.entry.Entry.{Entry}
use Rattle.hv_history.specs.Spelling.{touch_spelling, entry_spelling}
use Rattle.hv_history.specs.Journal.{record_of}

abbrev pub CanPutTouch : Touch → Type 0
CanPutTouch t = length (touch_spelling t) < 2 ^ 32

abbrev pub CanPutEntry : Entry → Type 0
CanPutEntry e = length (entry_spelling e) < 2 ^ 32

-- an open gate, and the entry's record behind it
unfoldable pub gated_record : Entry → List ℕ
gated_record e = 1 ∷ record_of e

-- what is written behind a gate: the record of the first entry, and of the others each behind an open gate
abbrev pub records_of : Entry → List Entry → List ℕ
records_of first more = record_of first ++ flat_map gated_record more
