-- The records that a compaction writes of a bucket's files: those of its range of write ids, each once, rising by identifier. Of a row
-- the write id is that which inserted it, and of a delete that which deleted the row.
-- Source: Hive Transactions, compactor.
use Rattle.std.specs.Prelude.{if◌then◌else◌, ℕ, ◌&&◌, nat_le, Bool, Option, Some, None, List, [], ◌∷◌, filter}
use Rattle.std.specs.declared.cmp.Ordering.{Ordering}
use Rattle.std.specs.Ordering.{on}
use Rattle.std.specs.List.{flat_map}
use Rattle.hv_base.specs.declared.ids.RowId.{RowId}
use Rattle.hv_base.specs.Identifiers.{row_id_cmp, row_id_eq}
use Rattle.hv_base.specs.Sorting.{merge_by, rising_by}
use Rattle.hv_rowfile.specs.declared.record.Rec.{Rec}
use Rattle.hv_rowfile.specs.declared.record.Rec.TheVariants as rec
use Rattle.hv_rowfile.specs.Layout.{id_of as record_id}
use Rattle.hv_merge.specs.Steps.{is_below}

abbrev pub rec_cmp : Rec → Rec → Ordering
rec_cmp = on record_id row_id_cmp

abbrev pub write_of : Rec → ℕ
write_of (rec.Insert id row) = id.write.0
write_of (rec.Delete id by) = by.0

abbrev pub is_in_range : ℕ → ℕ → Rec → Bool
is_in_range low high r = nat_le low (write_of r) && nat_le (write_of r) high

abbrev pub in_range : ℕ → ℕ → List Rec → List Rec
in_range low high recs = filter (is_in_range low high) recs

-- of records with one identifier the last one stands
unfoldable pub gathered : ℕ → ℕ → List (List Rec) → List Rec
gathered low high files = rising_by rec_cmp (flat_map (in_range low high) files)

-- ---- two lists that rise, put together

abbrev pub put_all : List Rec → List Rec → List Rec
put_all [] ys = ys
put_all (x ∷ xs) ys = merge_by rec_cmp x (put_all xs ys)

-- the record that comes first, the second list's where both begin with one identifier
abbrev pub next_of : List Rec → List Rec → Option Rec
next_of [] [] = None
next_of [] (y ∷ ys) = Some y
next_of (x ∷ xs) [] = Some x
next_of (x ∷ xs) (y ∷ ys) = if is_below (record_id y) (record_id x) then Some x else Some y

-- what is left of both
abbrev pub first_left : List Rec → List Rec → List Rec
first_left [] ys = []
first_left (x ∷ xs) [] = xs
first_left (x ∷ xs) (y ∷ ys) =
    if is_below (record_id y) (record_id x) then xs else if row_id_eq (record_id x) (record_id y) then xs else x ∷ xs

abbrev pub second_left : List Rec → List Rec → List Rec
second_left xs [] = []
second_left [] (y ∷ ys) = ys
second_left (x ∷ xs) (y ∷ ys) = if is_below (record_id y) (record_id x) then y ∷ ys else ys

-- the identifier that a file begins with
abbrev pub front_id : List Rec → Option RowId
front_id [] = None
front_id (r ∷ recs) = Some (record_id r)
