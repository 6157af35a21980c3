-- Reading fields from left to right: each function answers a value and the bytes behind it, or None where the
-- bytes begin with no such value. The contracts of the public calls speak of spellings alone.
use Rattle.std.specs.Prelude.{ℕ, zero, suc, Bool, true, false, List, [], ◌∷◌, length, take, drop, Option, Some, None, nat_lt, ◌==◌, if◌then◌else◌, ℤ}
use Rattle.std.specs.Int.{w32, w64, cast_signed}
use Rattle.std.specs.Ordering.{is_lt}
use Rattle.hv_base.specs.declared.ids.RowId.{RowId}
use Rattle.hv_base.specs.Identifiers.{row_id_cmp}
use Rattle.hv_bytes.specs.Reading.{◌>>=◌, two_at, four_at, eight_at, text_at, items_at}
use Rattle.hv_value.specs.Dates.{is_day}
use Rattle.hv_value.specs.declared.row.Row.{Row}
use Rattle.hv_value.specs.declared.value.Value.{Value}
use Rattle.hv_value.specs.declared.value.Value.TheVariants as value
use Rattle.hv_rowfile.specs.declared.record.Rec.{Rec}
use Rattle.hv_rowfile.specs.declared.record.Rec.TheVariants as rec
use Rattle.hv_rowfile.specs.Layout.{id_of}

unfoldable pub int_at : List ℕ → Option (ℤ × List ℕ)
int_at bytes = do
  n ← four_at bytes
  Some (cast_signed w32 n.0, n.1)

unfoldable pub big_at : List ℕ → Option (ℤ × List ℕ)
big_at bytes = do
  n ← eight_at bytes
  Some (cast_signed w64 n.0, n.1)

unfoldable pub truth_at : List ℕ → Option (Bool × List ℕ)
truth_at [] = None
truth_at (zero ∷ rest) = Some (false, rest)
truth_at (suc zero ∷ rest) = Some (true, rest)
truth_at (suc (suc b) ∷ rest) = None

-- ---- what stands behind a value's tag

unfoldable pub bool_value_at : List ℕ → Option (Value × List ℕ)
bool_value_at bytes = do
  b ← truth_at bytes
  Some (value.Bool b.0, b.1)

unfoldable pub int_value_at : List ℕ → Option (Value × List ℕ)
int_value_at bytes = do
  n ← int_at bytes
  Some (value.Int n.0, n.1)

unfoldable pub big_value_at : List ℕ → Option (Value × List ℕ)
big_value_at bytes = do
  n ← big_at bytes
  Some (value.Big n.0, n.1)

unfoldable pub text_value_at : List ℕ → Option (Value × List ℕ)
text_value_at bytes = do
  text ← text_at bytes
  Some (value.Str text.0, text.1)

unfoldable pub day_value_at : List ℕ → Option (Value × List ℕ)
day_value_at bytes = do
  n ← int_at bytes
  if is_day n.0 then Some (value.Day n.0, n.1) else None

abbrev pub flat_at : ℕ → List ℕ → Option (Value × List ℕ)
flat_at tag rest =
    if tag == 0 then Some (value.Null, rest)
    else (if tag == 1 then bool_value_at rest
    else (if tag == 2 then int_value_at rest
    else (if tag == 3 then big_value_at rest
    else (if tag == 4 then text_value_at rest
    else (if tag == 5 then day_value_at rest
    else None)))))

unfoldable pub element_at : List ℕ → Option (Value × List ℕ)
element_at [] = None
element_at (tag ∷ rest) = flat_at tag rest

unfoldable pub array_value_at : List ℕ → Option (Value × List ℕ)
array_value_at bytes = do
  n ← four_at bytes
  items ← items_at element_at n.0 n.1
  Some (value.Array items.0, items.1)

unfoldable pub value_at : List ℕ → Option (Value × List ℕ)
value_at [] = None
value_at (tag ∷ rest) = if tag == 6 then array_value_at rest else flat_at tag rest

-- ---- rows and records

-- all of the bytes as one row
unfoldable pub row_of : List ℕ → Option Row
row_of bytes = do
  n ← two_at bytes
  values ← items_at value_at n.0 n.1
  if length values.1 == 0 then Some (record { values = values.0 }) else None

-- the identifier of a row of this bucket
unfoldable pub key_at : ℕ → List ℕ → Option (RowId × List ℕ)
key_at bucket bytes = do
  write ← eight_at bytes
  statement ← four_at write.1
  row ← eight_at statement.1
  if write.0 == 0 then None else Some (record { write = record { 0 = write.0 }; statement = statement.0; bucket = bucket; row = row.0 }, row.1)

unfoldable pub row_at : List ℕ → Option (Row × List ℕ)
row_at bytes = do
  n ← four_at bytes
  if nat_lt 65538 n.0 then None else (if nat_lt (length n.1) n.0 then None else (do
    row ← row_of (take n.0 n.1)
    Some (row, drop n.0 n.1)))

unfoldable pub insert_at : ℕ → List ℕ → Option (Rec × List ℕ)
insert_at bucket bytes = do
  id ← key_at bucket bytes
  row ← row_at id.1
  Some (rec.Insert id.0 row.0, row.1)

unfoldable pub delete_at : ℕ → List ℕ → Option (Rec × List ℕ)
delete_at bucket bytes = do
  id ← key_at bucket bytes
  by ← eight_at id.1
  if by.0 == 0 then None else Some (rec.Delete id.0 (record { 0 = by.0 }), by.1)

unfoldable pub rec_at : Bool → ℕ → List ℕ → Option (Rec × List ℕ)
rec_at deletes bucket bytes = if deletes then delete_at bucket bytes else insert_at bucket bytes

-- the record comes behind the one before it
abbrev pub follows : Option RowId → Rec → Bool
follows None r = true
follows (Some before) r = is_lt (row_id_cmp before (id_of r))

unfoldable pub next_at : Bool → ℕ → Option RowId → List ℕ → Option (Rec × List ℕ)
next_at deletes bucket before bytes = do
  r ← rec_at deletes bucket bytes
  if follows before r.0 then Some r else None
