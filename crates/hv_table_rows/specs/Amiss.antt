-- Whether a file is of a kind, of a bucket and of some write ids, and the first offset at which it isn't.
use Rattle.std.specs.Prelude.{ℕ, ◌≤◌, ◌==◌, ◌&&◌, nat_lt, nat_le, Bool, true, false, if◌then◌else◌, Option, Some, None, List, length, take}
use Rattle.std.specs.List.{prefix_len}
use Rattle.hv_rowfile.specs.declared.record.Rec.{Rec}
use Rattle.hv_rowfile.specs.declared.record.Rec.TheVariants.{Insert, Delete}
use Rattle.hv_rowfile.specs.Layout.{file_spelling}
use Rattle.hv_choosing.specs.declared.dir.Span.{Span}

-- the write id that a record says: that under which its row was inserted, or deleted
abbrev pub writer_of : Rec → ℕ
writer_of (Insert id row) = id.write.0
writer_of (Delete id by) = by.0

abbrev pub is_within : Span → Rec → Bool
is_within span r = nat_le span.low (writer_of r) && nat_le (writer_of r) span.high

abbrev pub IsWithin : Span → Rec → Type 0
IsWithin span r = (span.low ≤ writer_of r) × (writer_of r ≤ span.high)

-- how many records at the front are of these write ids
abbrev pub own_count : Span → List Rec → ℕ
own_count span recs = prefix_len (is_within span) recs

-- the offset of a file's first record of another write id than these
abbrev pub first_other : Bool → ℕ → Span → List Rec → Option ℕ
first_other deletes bucket span recs =
    if nat_lt (own_count span recs) (length recs) then Some (length (file_spelling deletes bucket (take (own_count span recs) recs))) else None

abbrev pub is_kind : Bool → Bool → Bool
is_kind true kind = kind
is_kind false true = false
is_kind false false = true

-- The first offset at which the file of a kind and bucket with these records isn't one of that kind, of that bucket and of
-- these write ids: that of its kind, of its bucket, or of a record.
unfoldable pub first_amiss : Bool → ℕ → Span → Bool → ℕ → List Rec → Option ℕ
first_amiss deletes bucket span kind other recs =
    if is_kind deletes kind then (if other == bucket then first_other kind other span recs else Some 5) else Some 4
