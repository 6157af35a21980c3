-- A value of a type is one that a row file takes, and is counted by what it takes there.
use Rattle.std.proofs.Common.{◌≡◌, ◌&&◌, ℕ, zero, suc, ◌+◌, ◌≤◌, Bool, true, false, List, [], ◌∷◌, ◌++◌, length, take, drop, refl, sym, ap, ◌∙◌, subst, arith}
use Rattle.std.specs.Prelude.{ℤ, sum_by}
use Rattle.std.specs.List.{AllByRecursion, flat_map, list_all}
use Rattle.std.proofs.lemmas.Bool.{leb-true}
use Rattle.std.proofs.lemmas.List.{length-append}
use Rattle.std.proofs.lemmas.List.Sums.{sum_by-cons}
use Rattle.std.proofs.lemmas.List.Concat.{flat_map-cons}
use Rattle.hv_value.specs.declared.row.Row.{Row}
use Rattle.hv_value.specs.declared.sql_type.Elem.{Elem}
use Rattle.hv_value.specs.declared.sql_type.Elem.TheVariants as elem
use Rattle.hv_value.specs.declared.sql_type.SqlType.{SqlType}
use Rattle.hv_value.specs.declared.sql_type.SqlType.TheVariants as type
use Rattle.hv_value.specs.declared.value.Value.{Value}
use Rattle.hv_value.specs.declared.value.Value.TheOpen.{Value-F}
use Rattle.hv_value.specs.declared.value.Value.TheVariants as value
use Rattle.hv_value.specs.declared.value.Value.TheVariants.{rolls-Null, rolls-Bool, rolls-Int, rolls-Big, rolls-Str, rolls-Day, rolls-Array}
use Rattle.hv_value.specs.declared.value.Value.TheViews.{out-Value, roll-Value, roll-out-Value}
use Rattle.hv_value.specs.Dates.{is_day}
use Rattle.hv_value.specs.Conversion.{is_layer_of, is_in_range, is_item_in, is_layer_in}
use Rattle.hv_typing.specs.hv_logic.specs.declared.catalog.Column.{Column}
use Rattle.hv_typing.specs.hv_logic.specs.declared.catalog.Shape.{Shape}
use Rattle.hv_typing.specs.hv_logic.specs.Sizes.{stored_size}
use Rattle.hv_typing.specs.hv_logic.proofs.SizeLemmas.{size-Null, size-Bool, size-Int, size-Big, size-Str, size-Day, size-Array}
use Rattle.hv_route.specs.hv_rowfile.specs.Layout.{element_spelling, value_spelling, ElementIsTaken, ValueIsTaken}
use Rattle.hv_route.specs.hv_rowfile.proofs.Values.{taken-Null, taken-Bool, taken-Int, taken-Big, taken-Str, taken-Day, taken-Array, length-Null, length-Bool, length-Int, length-Big, length-Str, length-Day, length-Array, flat_spelled, flat_taken}
use Rattle.hv_route.specs.Back.{SayValues, IsHeld, AreHeld, AreFlat}
use Rattle.hv_route.specs.Touching.{stored_fits}
use Rattle.hv_route.proofs.HeldLemmas.{typed-are-said}
use Rattle.hv_typing.specs.Columns.{columns_of}
use Rattle.hv_meaning.specs.Laws.{AreOf, IsRowOf, SaysParts, StoredIsTaken, IsStored, TypedValuesAreStored}

pub both : (a b : Bool) → (a && b) ≡ true → (a ≡ true) × (b ≡ true)
both true b e = (refl, e)
both false b e = cc

-- ---- elements

record IsStoredElement (v : Value) : Type 0 where
  taken : ElementIsTaken v
  length_is : length (element_spelling v) ≡ stored_size v

element-Null : IsStoredElement value.Null
element-Null = record { taken = taken-Null; length_is = length-Null ∙ sym size-Null }

element-Bool : (b : Bool) → IsStoredElement (value.Bool b)
element-Bool b = record { taken = taken-Bool b; length_is = length-Bool b ∙ sym (size-Bool b) }

element-Int : (n : ℤ) → IsStoredElement (value.Int n)
element-Int n = record { taken = taken-Int n; length_is = length-Int n ∙ sym (size-Int n) }

element-Big : (n : ℤ) → IsStoredElement (value.Big n)
element-Big n = record { taken = taken-Big n; length_is = length-Big n ∙ sym (size-Big n) }

element-Str : (t : List ℕ) → IsStoredElement (value.Str t)
element-Str t = record { taken = taken-Str t; length_is = length-Str t ∙ sym (size-Str t) }

element-Day : (n : ℤ) → is_day n ≡ true → IsStoredElement (value.Day n)
element-Day n h = record { taken = taken-Day n h; length_is = length-Day n ∙ sym (size-Day n) }

-- a value is what its layer makes
is_rolled : (v x : Value) (y : Value-F Value) → out-Value v ≡ y → roll-Value y ≡ x → x ≡ v
is_rolled v x y opens rolls = sym rolls ∙ ap roll-Value (sym opens) ∙ roll-out-Value v

no-array : (e : Elem) (items : List Value) → is_layer_of e (Value-F.Array items) ≡ true → ⊥
no-array elem.Null items h = cc
no-array elem.Boolean items h = cc
no-array elem.Int items h = cc
no-array elem.BigInt items h = cc
no-array elem.Str items h = cc
no-array elem.Date items h = cc

item-layer : (e : Elem) (v : Value) (x : Value-F Value) → out-Value v ≡ x → (is_layer_of e x && is_in_range x) ≡ true → IsStoredElement v
item-layer e v Value-F.Null opens h = subst IsStoredElement (is_rolled v value.Null Value-F.Null opens rolls-Null) element-Null
item-layer e v (Value-F.Bool b) opens h = subst IsStoredElement (is_rolled v (value.Bool b) (Value-F.Bool b) opens (rolls-Bool b)) (element-Bool b)
item-layer e v (Value-F.Int n) opens h = subst IsStoredElement (is_rolled v (value.Int n) (Value-F.Int n) opens (rolls-Int n)) (element-Int n)
item-layer e v (Value-F.Big n) opens h = subst IsStoredElement (is_rolled v (value.Big n) (Value-F.Big n) opens (rolls-Big n)) (element-Big n)
item-layer e v (Value-F.Str t) opens h = subst IsStoredElement (is_rolled v (value.Str t) (Value-F.Str t) opens (rolls-Str t)) (element-Str t)
item-layer e v (Value-F.Day n) opens h =
    subst IsStoredElement (is_rolled v (value.Day n) (Value-F.Day n) opens (rolls-Day n))
    (element-Day n (both (is_layer_of e (Value-F.Day n)) (is_day n) h).1)
item-layer e v (Value-F.Array items) opens h = absurd (no-array e items (both (is_layer_of e (Value-F.Array items)) true h).0)

items-stored : (e : Elem) (items : List Value) → list_all (is_item_in e) items ≡ true → AllByRecursion IsStoredElement items
items-stored e [] h = tt
items-stored e (v ∷ vs) h =
    let parts = both (is_item_in e v) (list_all (is_item_in e) vs) h in
    (item-layer e v (out-Value v) refl parts.0, items-stored e vs parts.1)

elements-taken : (vs : List Value) → AllByRecursion IsStoredElement vs → AllByRecursion ElementIsTaken vs
elements-taken [] all = tt
elements-taken (v ∷ vs) all = let first : IsStoredElement v = all.0 in (first.taken, elements-taken vs all.1)

elements-length : (vs : List Value) → AllByRecursion IsStoredElement vs → length (flat_map element_spelling vs) ≡ sum_by stored_size vs
elements-length [] all = refl
elements-length (v ∷ vs) all =
    let first : IsStoredElement v = all.0 in
    let one = first.length_is in
    let whole : length (flat_map element_spelling (v ∷ vs)) ≡ length (element_spelling v) + length (flat_map element_spelling vs) =
    ap length (flat_map-cons element_spelling v vs) ∙ length-append (element_spelling v) (flat_map element_spelling vs) in
    let sizes : sum_by stored_size (v ∷ vs) ≡ stored_size v + sum_by stored_size vs = sum_by-cons stored_size v vs in
    let rest = elements-length vs all.1 in
    omega (arith, whole, one, sizes, rest)

-- ---- values

flat-stored : (v : Value) → IsStoredElement v → IsStored v
flat-stored v h = record { taken = flat_taken v h.taken; length_is = ap length (flat_spelled v h.taken) ∙ h.length_is }

array-stored : (items : List Value) → AllByRecursion IsStoredElement items → IsStored (value.Array items)
array-stored items all = record {
  taken = taken-Array items (elements-taken items all);
  length_is = length-Array items ∙ ap (λ n. 5 + n) (elements-length items all) ∙ sym (size-Array items);
}

day-of : (kind : SqlType) (n : ℤ) → is_layer_in kind (Value-F.Day n) ≡ true → is_day n ≡ true
day-of type.Null n h = cc
day-of type.Boolean n h = cc
day-of type.Int n h = cc
day-of type.BigInt n h = cc
day-of type.Str n h = cc
day-of type.Date n h = h
day-of (type.ArrayOf e) n h = cc

items-of : (kind : SqlType) (items : List Value) → is_layer_in kind (Value-F.Array items) ≡ true → AllByRecursion IsStoredElement items
items-of type.Null items h = cc
items-of type.Boolean items h = cc
items-of type.Int items h = cc
items-of type.BigInt items h = cc
items-of type.Str items h = cc
items-of type.Date items h = cc
items-of (type.ArrayOf e) items h = items-stored e items h

layer-stored : (kind : SqlType) (v : Value) (x : Value-F Value) → out-Value v ≡ x → is_layer_in kind x ≡ true → IsStored v
layer-stored kind v Value-F.Null opens h = subst IsStored (is_rolled v value.Null Value-F.Null opens rolls-Null) (flat-stored value.Null element-Null)
layer-stored kind v (Value-F.Bool b) opens h = subst IsStored (is_rolled v (value.Bool b) (Value-F.Bool b) opens (rolls-Bool b)) (flat-stored (value.Bool b) (element-Bool b))
layer-stored kind v (Value-F.Int n) opens h = subst IsStored (is_rolled v (value.Int n) (Value-F.Int n) opens (rolls-Int n)) (flat-stored (value.Int n) (element-Int n))
layer-stored kind v (Value-F.Big n) opens h = subst IsStored (is_rolled v (value.Big n) (Value-F.Big n) opens (rolls-Big n)) (flat-stored (value.Big n) (element-Big n))
layer-stored kind v (Value-F.Str t) opens h = subst IsStored (is_rolled v (value.Str t) (Value-F.Str t) opens (rolls-Str t)) (flat-stored (value.Str t) (element-Str t))
layer-stored kind v (Value-F.Day n) opens h =
    subst IsStored (is_rolled v (value.Day n) (Value-F.Day n) opens (rolls-Day n)) (flat-stored (value.Day n) (element-Day n (day-of kind n h)))
layer-stored kind v (Value-F.Array items) opens h =
    subst IsStored (is_rolled v (value.Array items) (Value-F.Array items) opens (rolls-Array items)) (array-stored items (items-of kind items h))

pub typed-stored : TypedValuesAreStored
typed-stored kind v h = layer-stored kind v (out-Value v) refl h

-- ---- rows

values-stored : (columns : List Column) (vs : List Value) → AreOf columns vs → AllByRecursion IsStored vs
values-stored [] [] h = tt
values-stored [] (v ∷ vs) h = absurd h
values-stored (column ∷ columns) [] h = tt
values-stored (column ∷ columns) (v ∷ vs) h = (typed-stored column.kind v h.0, values-stored columns vs h.1)

values-few : (columns : List Column) (vs : List Value) → AreOf columns vs → length vs ≤ length columns
values-few [] [] h = omega arith
values-few [] (v ∷ vs) h = absurd h
values-few (column ∷ columns) [] h = omega arith
values-few (column ∷ columns) (v ∷ vs) h = let few = values-few columns vs h.1 in omega (arith, few)

stored-taken : (vs : List Value) → AllByRecursion IsStored vs → AllByRecursion ValueIsTaken vs
stored-taken [] all = tt
stored-taken (v ∷ vs) all = let first : IsStored v = all.0 in (first.taken, stored-taken vs all.1)

stored-length : (vs : List Value) → AllByRecursion IsStored vs → length (flat_map value_spelling vs) ≡ sum_by stored_size vs
stored-length [] all = refl
stored-length (v ∷ vs) all =
    let first : IsStored v = all.0 in
    let one = first.length_is in
    let whole : length (flat_map value_spelling (v ∷ vs)) ≡ length (value_spelling v) + length (flat_map value_spelling vs) =
    ap length (flat_map-cons value_spelling v vs) ∙ length-append (value_spelling v) (flat_map value_spelling vs) in
    let sizes : sum_by stored_size (v ∷ vs) ≡ stored_size v + sum_by stored_size vs = sum_by-cons stored_size v vs in
    let rest = stored-length vs all.1 in
    omega (arith, whole, one, sizes, rest)

module _ {A : Type 0} (P : A → Type 0) where
  all-take : (n : ℕ) (xs : List A) → AllByRecursion P xs → AllByRecursion P (take n xs)
  all-take zero xs all = tt
  all-take (suc n) [] all = tt
  all-take (suc n) (x ∷ xs) all = (all.0, all-take n xs all.1)

  all-drop : (n : ℕ) (xs : List A) → AllByRecursion P xs → AllByRecursion P (drop n xs)
  all-drop zero xs all = all
  all-drop (suc n) [] all = tt
  all-drop (suc n) (x ∷ xs) all = all-drop n xs all.1

take-few : {A : Type 0} (n : ℕ) (xs : List A) → length (take n xs) ≤ length xs
take-few zero xs = omega arith
take-few (suc n) [] = omega arith
take-few (suc n) (x ∷ xs) = let few = take-few n xs in omega (arith, few)

row-taken : (shape : Shape) (row : Row) → length (columns_of shape) ≤ 65535 → IsRowOf (columns_of shape) row → stored_fits shape row ≡ true
    → StoredIsTaken shape row
row-taken shape row most typed fits =
    let kept = take (length shape.columns) row.values in
    let all = all-take IsStored (length shape.columns) row.values (values-stored (columns_of shape) row.values typed) in
    let few = values-few (columns_of shape) row.values typed in
    let fewer = take-few (length shape.columns) row.values in
    let within = leb-true (sum_by stored_size kept) 65536 fits in
    let same = stored-length kept all in
    record {
      count = omega (arith, few, fewer, most);
      short = omega (arith, within, same);
      values = stored-taken kept all;
    }

pub rows-taken : (shape : Shape) (rows : List Row) → length (columns_of shape) ≤ 65535 → AllByRecursion (IsRowOf (columns_of shape)) rows
    → list_all (stored_fits shape) rows ≡ true → AllByRecursion (StoredIsTaken shape) rows
rows-taken shape [] most typed fit = tt
rows-taken shape (row ∷ rows) most typed fit =
    let parts = both (stored_fits shape row) (list_all (stored_fits shape) rows) fit in
    (row-taken shape row most typed.0 parts.0, rows-taken shape rows most typed.1 parts.1)

-- ---- what a partition's text says

parts-of : (columns parts : List Column) (vs : List Value) → AreOf (columns ++ parts) vs → AreOf parts (drop (length columns) vs)
parts-of [] parts vs h = h
parts-of (column ∷ columns) parts [] h = absurd h
parts-of (column ∷ columns) parts (v ∷ vs) h = parts-of columns parts vs h.1

values-said : (parts : List Column) (vs : List Value) → AreFlat parts → AreOf parts vs → AllByRecursion IsHeld vs → SayValues parts vs
values-said [] [] flat h held = tt
values-said [] (v ∷ vs) flat h held = absurd h
values-said (column ∷ columns) [] flat h held = absurd h
values-said (column ∷ columns) (v ∷ vs) flat h held =
    (typed-are-said column.kind v flat.0 h.0 held.0, values-said columns vs flat.1 h.1 held.1)

pub rows-said : (shape : Shape) (rows : List Row) → AllByRecursion (IsRowOf (columns_of shape)) rows → AreFlat shape.parts → AreHeld rows
    → AllByRecursion (SaysParts shape) rows
rows-said shape [] typed flat held = tt
rows-said shape (row ∷ rows) typed flat held =
    let width = length shape.columns in (
      values-said shape.parts (drop width row.values) flat (parts-of shape.columns shape.parts row.values typed.0)
          (all-drop IsHeld width row.values held.0),
      rows-said shape rows typed.1 flat held.1,
    )
