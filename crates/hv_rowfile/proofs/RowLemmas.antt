-- How long rows and records are, and that their values can be written.
use Rattle.std.proofs.Common.{◌≡◌, ℕ, ◌+◌, ◌<◌, ◌≤◌, ◌^◌, Bool, List, [], ◌∷◌, ◌++◌, length, ap, ◌∙◌, subst, append_assoc, arith}
use Rattle.std.specs.List.{flat_map, AllByRecursion}
use Rattle.std.proofs.lemmas.List.{length-append}
use Rattle.std.proofs.lemmas.List.Concat.{flat_map-cons}
use Rattle.hv_base.specs.declared.ids.RowId.{RowId}
use Rattle.hv_base.specs.declared.ids.WriteId.{WriteId}
use Rattle.hv_bytes.specs.Spelling.{two_bytes, four_bytes, eight_bytes}
use Rattle.hv_bytes.proofs.Lengths.{length-two, length-four, length-eight, length-text}
use Rattle.hv_bytes.proofs.ItemLemmas.{both, all_short}
use Rattle.hv_value.specs.declared.row.Row.{Row}
use Rattle.hv_value.specs.declared.value.Value.{Value}
use Rattle.hv_value.specs.declared.value.Value.TheOpen.{Value-F}
use Rattle.hv_value.specs.declared.value.Value.TheVariants.{Array}
use Rattle.hv_value.specs.declared.value.Value.TheViews.{out-Value}
use Rattle.hv_rowfile.specs.declared.record.Rec.TheVariants as rec
use Rattle.hv_rowfile.specs.Layout.{flat_spelling, element_spelling, value_spelling, row_spelling, key_spelling, rec_spelling, head_spelling, FlatIsTaken, ElementIsTaken, ValueIsTaken, RowIsTaken}
use Rattle.hv_rowfile.specs.Writing.{CanPutElement, CanPutValue}
use Rattle.hv_rowfile.proofs.Values.{items_taken, length-Array}

pub length-row : (row : Row) → length (row_spelling row) ≡ 2 + length (flat_map value_spelling row.values)
unfolding row_spelling
length-row row = length-append (two_bytes (length row.values)) (flat_map value_spelling row.values) ∙ omega (arith, length-two (length row.values))

pub length-key : (id : RowId) → length (key_spelling id) ≡ 20
unfolding key_spelling
length-key id = omega (arith, length-append (eight_bytes id.write.0 ++ four_bytes id.statement) (eight_bytes id.row), length-append (eight_bytes id.write.0) (four_bytes id.statement), length-eight id.write.0, length-four id.statement, length-eight id.row)

pub length-insert : (id : RowId) (row : Row) → length (rec_spelling (rec.Insert id row)) ≡ 24 + length (row_spelling row)
unfolding rec_spelling
length-insert id row =
    let body = row_spelling row in
    omega (arith, length-append (key_spelling id) (four_bytes (length body) ++ body), length-append (four_bytes (length body)) body, length-key id, length-four (length body))

pub length-delete : (id : RowId) (by : WriteId) → length (rec_spelling (rec.Delete id by)) ≡ 28
unfolding rec_spelling
length-delete id by = omega (arith, length-append (key_spelling id) (eight_bytes by.0), length-key id, length-eight by.0)

pub length-head : (deletes : Bool) (bucket count : ℕ) → length (head_spelling deletes bucket count) ≡ 17
unfolding head_spelling
length-head deletes bucket count = omega (arith, length-append (four_bytes bucket) (eight_bytes count), length-four bucket, length-eight count)

pub ruleset lengths = (length-append, length-two, length-four, length-eight, length-text, length-row, length-key, length-insert, length-delete, length-head, append_assoc)

-- ---- what can be written of a row that is taken

pub row_can : (row : Row) → RowIsTaken row → AllByRecursion CanPutValue row.values
row_can row t = both ValueIsTaken (λ v. length (value_spelling v) < 2 ^ 32) row.values t.values (all_short value_spelling (2 ^ 32) row.values (let s = t.short in omega arith))

-- ---- and of an array

some_byte : (y : Value-F Value) → FlatIsTaken y → 1 ≤ length (flat_spelling y)
some_byte Value-F.Null h = omega arith
some_byte (Value-F.Bool b) h = omega arith
some_byte (Value-F.Int n) h = omega arith
some_byte (Value-F.Big n) h = omega arith
some_byte (Value-F.Str t) h = omega arith
some_byte (Value-F.Day n) h = omega arith
some_byte (Value-F.Array items) h = absurd h

one_byte : (x : Value) → ElementIsTaken x → 1 ≤ length (element_spelling x)
unfolding element_spelling ElementIsTaken
one_byte x h = some_byte (out-Value x) h

-- there are no more elements than bytes of them
element_count : (xs : List Value) → AllByRecursion ElementIsTaken xs → length xs ≤ length (flat_map element_spelling xs)
element_count [] h = omega arith
element_count (x ∷ xs) h =
    let len : length (flat_map element_spelling (x ∷ xs)) ≡ length (element_spelling x) + length (flat_map element_spelling xs) = ap length (flat_map-cons element_spelling x xs) ∙ length-append (element_spelling x) (flat_map element_spelling xs) in
    omega (arith, len, one_byte x h.0, element_count xs h.1)

pub array_short : (items : List Value) → CanPutValue (Array items) → length (flat_map element_spelling items) < 2 ^ 32
array_short items h = let short = h.1 in omega (arith, length-Array items)

pub array_count : (items : List Value) → CanPutValue (Array items) → length items < 2 ^ 32
array_count items h = let short = array_short items h in omega (arith, element_count items (items_taken items h.0))

pub array_can : (items : List Value) → CanPutValue (Array items) → AllByRecursion CanPutElement items
array_can items h = both ElementIsTaken (λ v. length (element_spelling v) < 2 ^ 32) items (items_taken items h.0) (all_short element_spelling (2 ^ 32) items (array_short items h))

pub array_is : (x : Value) (items : List Value) → x ≡ Array items → CanPutValue x → CanPutValue (Array items)
array_is x items e h = subst CanPutValue e h
