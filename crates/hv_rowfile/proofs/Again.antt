-- What was spelled is read again, whatever stands behind it.
use Rattle.std.proofs.Common.{◌≡◌, ℕ, zero, suc, ◌^◌, ◌<◌, ◌≤◌, ◌==◌, Bool, true, false, List, [], ◌∷◌, ◌++◌, length, Option, Some, None, ℤ, refl, sym, ap, ◌∙◌, subst, append_assoc, arith, ltb, to_z-of_z}
use Rattle.std.specs.Prelude.{FitsSigned, IsTrue}
use Rattle.std.specs.List.{flat_map, AllByRecursion}
use Rattle.std.specs.Int.{w32, w64, cast_unsigned}
use Rattle.std.specs.Ordering.{is_lt}
use Rattle.std.proofs.lemmas.Bool.{le-ltb}
use Rattle.std.proofs.lemmas.List.{take_at, drop_at, length-append, append-nil}
use Rattle.std.proofs.Math.Facts.{Fits-of_z}
use lib.Dec.{eqb-suc-zero}
use Rattle.hv_base.specs.declared.ids.RowId.{RowId}
use Rattle.hv_bytes.specs.Spelling.{four_bytes, eight_bytes}
use Rattle.hv_bytes.specs.Reading.{four_at, items_at}
use Rattle.hv_bytes.proofs.Again.{two_again, four_again, eight_again, text_again}
use Rattle.hv_bytes.proofs.ItemLemmas.{items_again, both}
use Rattle.hv_value.specs.declared.row.Row.{Row}
use Rattle.hv_value.specs.Dates.{is_day}
use Rattle.hv_value.specs.declared.value.Value.{Value}
use Rattle.hv_value.specs.declared.value.Value.TheOpen.{Value-F}
use Rattle.hv_value.specs.declared.value.Value.TheVariants.{Array, rolls-Null, rolls-Bool, rolls-Int, rolls-Big, rolls-Str, rolls-Day, rolls-Array}
use Rattle.hv_value.specs.declared.value.Value.TheViews.{out-Value, roll-Value, roll-out-Value}
use Rattle.hv_rowfile.specs.declared.record.Rec.{Rec}
use Rattle.hv_rowfile.specs.declared.record.Rec.TheVariants as rec
use Rattle.hv_rowfile.specs.Layout.{int_spelling, big_spelling, truth_byte, flat_spelling, element_spelling, layer_spelling, value_spelling, row_spelling, key_spelling, rec_spelling, FlatIsTaken, ElementIsTaken, LayerIsTaken, ValueIsTaken, RowIsTaken, KeyIsTaken, RecIsTaken, Follows, FlatFits, ElementFits, LayerFits, ValueFits, KeyFits, RecFits, IsNext}
use Rattle.hv_rowfile.specs.Writing.{IsElement, IsValue}
use Rattle.hv_rowfile.specs.Reading.{int_at, big_at, truth_at, bool_value_at, int_value_at, big_value_at, text_value_at, day_value_at, element_at, array_value_at, value_at, row_of, key_at, row_at, insert_at, delete_at, rec_at, follows, next_at}
use Rattle.hv_rowfile.proofs.RowLemmas.{length-row}

int_again : (n : ℤ) (rest : List ℕ) → FitsSigned w32 n → int_at (int_spelling n ++ rest) ≡ Some (n, rest)
unfolding int_at
int_again n rest h =
    let small = Fits-of_z {w = w32} {z = n} h in
    rw (four_again (cast_unsigned w32 n) rest small.fits, to_z-of_z h) refl

big_again : (n : ℤ) (rest : List ℕ) → FitsSigned w64 n → big_at (big_spelling n ++ rest) ≡ Some (n, rest)
unfolding big_at
big_again n rest h =
    let small = Fits-of_z {w = w64} {z = n} h in
    rw (eight_again (cast_unsigned w64 n) rest small.fits, to_z-of_z h) refl

pub truth_again : (b : Bool) (rest : List ℕ) → truth_at (truth_byte b ∷ rest) ≡ Some (b, rest)
unfolding truth_at
truth_again false rest = refl
truth_again true rest = refl

-- ---- values

rolled : (x y : Value) (rest : List ℕ) (read : Option (Value × List ℕ)) → x ≡ y → read ≡ Some (y, rest) → read ≡ Some (x, rest)
rolled x y rest read e h = h ∙ ap (λ (v : Value). Some (v, rest)) (sym e)

flat_again : (y : Value-F Value) (rest : List ℕ) → FlatIsTaken y → FlatFits y → element_at (flat_spelling y ++ rest) ≡ Some (roll-Value y, rest)
unfolding element_at bool_value_at int_value_at big_value_at text_value_at day_value_at
flat_again Value-F.Null rest t f = rolled _ _ rest _ rolls-Null refl
flat_again (Value-F.Bool b) rest t f = rolled _ _ rest _ (rolls-Bool b) (rw (truth_again b rest) refl)
flat_again (Value-F.Int n) rest t f = rolled _ _ rest _ (rolls-Int n) (rw (int_again n rest f) refl)
flat_again (Value-F.Big n) rest t f = rolled _ _ rest _ (rolls-Big n) (rw (big_again n rest f) refl)
flat_again (Value-F.Str s) rest t f = rolled _ _ rest _ (rolls-Str s) (rw (text_again s rest f) refl)
flat_again (Value-F.Day n) rest t f = rolled _ _ rest _ (rolls-Day n) (rw (int_again n rest f, is_true (is_day n) t) refl)
  where
    is_true : (b : Bool) → IsTrue b → b ≡ true
    is_true true h = refl
    is_true false h = cc
flat_again (Value-F.Array items) rest t f = absurd t

element_again : (x : Value) (rest : List ℕ) → ElementIsTaken x → ElementFits x → element_at (element_spelling x ++ rest) ≡ Some (x, rest)
unfolding element_spelling ElementIsTaken ElementFits
element_again x rest t f = rolled x (roll-Value (out-Value x)) rest _ (sym (roll-out-Value x)) (flat_again (out-Value x) rest t f)

elements_again : (items : List Value) (rest : List ℕ) → AllByRecursion ElementIsTaken items → AllByRecursion ElementFits items → items_at element_at (length items) (flat_map element_spelling items ++ rest) ≡ Some (items, rest)
elements_again items rest t f = items_again element_at element_spelling IsElement (λ x behind h. element_again x behind h.0 h.1) items rest (both ElementIsTaken ElementFits items t f)

array_again : (items : List Value) (rest : List ℕ) → AllByRecursion ElementIsTaken items → length items < 2 ^ 32 → AllByRecursion ElementFits items
    → array_value_at ((four_bytes (length items) ++ flat_map element_spelling items) ++ rest) ≡ Some (Array items, rest)
unfolding array_value_at
array_again items rest t short f = rw (append_assoc, four_again (length items) _ short, elements_again items rest t f) refl

-- a value behind a tag that is no array's is read as an element
layer_again : (y : Value-F Value) (rest : List ℕ) → LayerIsTaken y → LayerFits y → value_at (layer_spelling y ++ rest) ≡ Some (roll-Value y, rest)
unfolding value_at element_at
layer_again Value-F.Null rest t f = flat_again Value-F.Null rest t f
layer_again (Value-F.Bool b) rest t f = flat_again (Value-F.Bool b) rest t f
layer_again (Value-F.Int n) rest t f = flat_again (Value-F.Int n) rest t f
layer_again (Value-F.Big n) rest t f = flat_again (Value-F.Big n) rest t f
layer_again (Value-F.Str s) rest t f = flat_again (Value-F.Str s) rest t f
layer_again (Value-F.Day n) rest t f = flat_again (Value-F.Day n) rest t f
layer_again (Value-F.Array items) rest t f = rolled _ _ rest _ (rolls-Array items) (array_again items rest t f.0 f.1)

value_again : (x : Value) (rest : List ℕ) → ValueIsTaken x → ValueFits x → value_at (value_spelling x ++ rest) ≡ Some (x, rest)
unfolding value_spelling ValueIsTaken ValueFits
value_again x rest t f = rolled x (roll-Value (out-Value x)) rest _ (sym (roll-out-Value x)) (layer_again (out-Value x) rest t f)

values_again : (values : List Value) (rest : List ℕ) → AllByRecursion ValueIsTaken values → AllByRecursion ValueFits values → items_at value_at (length values) (flat_map value_spelling values ++ rest) ≡ Some (values, rest)
values_again values rest t f = items_again value_at value_spelling IsValue (λ x behind h. value_again x behind h.0 h.1) values rest (both ValueIsTaken ValueFits values t f)

-- ---- rows and records

whole_again : (row : Row) → RowIsTaken row → AllByRecursion ValueFits row.values → row_of (row_spelling row) ≡ Some row
unfolding row_of row_spelling
whole_again row t f =
    let body = flat_map value_spelling row.values in
    let read : items_at value_at (length row.values) body ≡ Some (row.values, []) = ap (items_at value_at (length row.values)) (sym (append-nil body)) ∙ values_again row.values [] t.values f in
    rw (two_again (length row.values) body (let c = t.count in omega arith), read) refl

row_again : (row : Row) (rest : List ℕ) → RowIsTaken row → AllByRecursion ValueFits row.values → row_at ((four_bytes (length (row_spelling row)) ++ row_spelling row) ++ rest) ≡ Some (row, rest)
unfolding row_at
row_again row rest t f =
    let body = row_spelling row in
    let short : length body ≤ 65538 = (let s = t.short in omega (arith, length-row row)) in
    let front = take_at body rest (length body) refl in
    let small : ltb 65538 (length body) ≡ false = le-ltb _ _ short in
    let long : ltb (length (body ++ rest)) (length body) ≡ false = le-ltb _ _ (omega (arith, length-append body rest)) in
    let read : four_at ((four_bytes (length body) ++ body) ++ rest) ≡ Some (length body, body ++ rest) = ap four_at (append_assoc (four_bytes (length body)) body rest) ∙ four_again (length body) (body ++ rest) (omega arith) in
    rw (read, small, long, front, drop_at body rest (length body) refl, whole_again row t f) refl

not_zero : (n : ℕ) → 1 ≤ n → (n == 0) ≡ false
not_zero zero h = absurd (omega arith)
not_zero (suc n) h = eqb-suc-zero n

key_again : (bucket : ℕ) (id : RowId) (rest : List ℕ) → KeyIsTaken bucket id → KeyFits id → key_at bucket (key_spelling id ++ rest) ≡ Some (id, rest)
unfolding key_at key_spelling
key_again bucket id rest t f =
    let read : key_at id.bucket ((eight_bytes id.write.0 ++ four_bytes id.statement ++ eight_bytes id.row) ++ rest) ≡ Some (id, rest) =
    simp append_assoc (rw (eight_again id.write.0 _ f.write, four_again id.statement _ f.statement, eight_again id.row _ f.row, not_zero id.write.0 t.written) refl) in
    subst (λ (b : ℕ). key_at b ((eight_bytes id.write.0 ++ four_bytes id.statement ++ eight_bytes id.row) ++ rest) ≡ Some (id, rest)) t.bucket_same read

insert_again : (bucket : ℕ) (id : RowId) (row : Row) (rest : List ℕ) → KeyIsTaken bucket id → KeyFits id → RowIsTaken row → AllByRecursion ValueFits row.values
    → insert_at bucket ((key_spelling id ++ (four_bytes (length (row_spelling row)) ++ row_spelling row)) ++ rest) ≡ Some (rec.Insert id row, rest)
unfolding insert_at
insert_again bucket id row rest kt kf rt rf =
    let front = four_bytes (length (row_spelling row)) ++ row_spelling row in
    ap (insert_at bucket) (append_assoc (key_spelling id) front rest) ∙ rw (key_again bucket id (front ++ rest) kt kf, row_again row rest rt rf) refl

delete_again : (bucket : ℕ) (id : RowId) (by : ℕ) (rest : List ℕ) → KeyIsTaken bucket id → KeyFits id → 1 ≤ by → by < 2 ^ 64
    → delete_at bucket ((key_spelling id ++ eight_bytes by) ++ rest) ≡ Some (rec.Delete id (record { 0 = by }), rest)
unfolding delete_at
delete_again bucket id by rest kt kf some small =
    ap (delete_at bucket) (append_assoc (key_spelling id) (eight_bytes by) rest) ∙ rw (key_again bucket id (eight_bytes by ++ rest) kt kf, eight_again by rest small, not_zero by some) refl

pub rec_again : (deletes : Bool) (bucket : ℕ) (r : Rec) (rest : List ℕ) → RecIsTaken deletes bucket r → RecFits r → rec_at deletes bucket (rec_spelling r ++ rest) ≡ Some (r, rest)
unfolding rec_at rec_spelling
rec_again deletes bucket (rec.Insert id row) rest t f = rw t.0 (insert_again bucket id row rest t.1 f.0 t.2 f.1)
rec_again deletes bucket (rec.Delete id by) rest t f = rw t.0 (delete_again bucket id by.0 rest t.1 f.0 t.2 f.1)

follows_true : (before : Option RowId) (r : Rec) → Follows before r → follows before r ≡ true
follows_true None r h = refl
follows_true (Some b) r h = ap is_lt h

pub next_again : (deletes : Bool) (bucket : ℕ) (before : Option RowId) (r : Rec) (rest : List ℕ) → IsNext deletes bucket before r → next_at deletes bucket before (rec_spelling r ++ rest) ≡ Some (r, rest)
unfolding next_at
next_again deletes bucket before r rest h = rw (rec_again deletes bucket r rest h.taken h.fits, follows_true before r h.follows) refl
