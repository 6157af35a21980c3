-- What the functions of SQL ask of values, and what they make of what they find. NULL is None.
-- Source: Hive Language Manual, types and operators; what it leaves open is this project's profile.
use Rattle.std.specs.Prelude.{ℕ, Bool, true, false, if◌then◌else◌, List, ℤ, pos, negsuc, Option, Some, None, option_map, slice_get}
use Rattle.std.specs.Int.{int_wrap, Width, w32, w64}
use Rattle.std.specs.declared.cmp.Ordering.{Ordering}
use Rattle.std.specs.Ordering.{is_eq, int_cmp, bool_cmp, nat_cmp}
use Rattle.std.specs.Cmp.Lexicographic.{slice_cmp}
use Rattle.hv_value.specs.declared.sql_type.SqlType.{SqlType}
use Rattle.hv_value.specs.declared.sql_type.SqlType.TheVariants as type
use Rattle.hv_value.specs.declared.value.Value.{Value}
use Rattle.hv_value.specs.declared.value.Value.TheOpen.{Value-F}
use Rattle.hv_value.specs.declared.value.Value.TheVariants as value
use Rattle.hv_value.specs.declared.value.Value.TheViews.{out-Value}
use Rattle.hv_value.specs.Conversion.{some_int, some_big}
use Rattle.hv_value.specs.Dates.{is_day, day_of_text}

-- ---- what stands at a place of a type: what isn't of it, and a DATE out of range, count as NULL

abbrev pub is_layer_of : SqlType → Value-F Value → Bool
is_layer_of type.Boolean (Value-F.Bool b) = true
is_layer_of type.Int (Value-F.Int z) = true
is_layer_of type.BigInt (Value-F.Big z) = true
is_layer_of type.Str (Value-F.Str text) = true
is_layer_of type.Date (Value-F.Day day) = is_day day
is_layer_of (type.ArrayOf e) (Value-F.Array items) = true
is_layer_of _ _ = false

unfoldable pub taken : SqlType → Value → Value
taken kind v = if is_layer_of kind (out-Value v) then v else value.Null

abbrev pub taken_or_null : SqlType → Option Value → Value
taken_or_null kind None = value.Null
taken_or_null kind (Some v) = taken kind v

abbrev pub or_null : Option Value → Value
or_null None = value.Null
or_null (Some v) = v

-- ---- what a value holds

abbrev pub layer_truth : Value-F Value → Option Bool
layer_truth (Value-F.Bool b) = Some b
layer_truth _ = None

abbrev pub layer_int : Value-F Value → Option ℤ
layer_int (Value-F.Int z) = Some z
layer_int _ = None

-- an integer of either width
abbrev pub layer_number : Value-F Value → Option ℤ
layer_number (Value-F.Int z) = Some z
layer_number (Value-F.Big z) = Some z
layer_number _ = None

abbrev pub layer_text : Value-F Value → Option (List ℕ)
layer_text (Value-F.Str text) = Some text
layer_text _ = None

abbrev pub layer_day : Value-F Value → Option ℤ
layer_day (Value-F.Day day) = Some day
layer_day _ = None

abbrev pub layer_items : Value-F Value → Option (List Value)
layer_items (Value-F.Array items) = Some items
layer_items _ = None

abbrev pub layer_is_null : Value-F Value → Bool
layer_is_null Value-F.Null = true
layer_is_null _ = false

abbrev pub truth_of : Value → Option Bool
truth_of v = layer_truth (out-Value v)

abbrev pub int_of : Value → Option ℤ
int_of v = layer_int (out-Value v)

abbrev pub number_of : Value → Option ℤ
number_of v = layer_number (out-Value v)

abbrev pub text_of : Value → Option (List ℕ)
text_of v = layer_text (out-Value v)

abbrev pub day_of : Value → Option ℤ
day_of v = layer_day (out-Value v)

abbrev pub items_of : Value → Option (List Value)
items_of v = layer_items (out-Value v)

abbrev pub is_null : Value → Bool
is_null v = layer_is_null (out-Value v)

-- ---- what is found as a value

abbrev pub truth_value : Option Bool → Value
truth_value None = value.Null
truth_value (Some b) = value.Bool b

abbrev pub text_value : Option (List ℕ) → Value
text_value None = value.Null
text_value (Some text) = value.Str text

-- an INT keeps the low 32 bits
abbrev pub int_value : Option ℤ → Value
int_value None = value.Null
int_value (Some z) = value.Int (int_wrap w32 z)

-- ---- a function of what both hold, NULL where one holds nothing

abbrev pub both_of : {A B C : Type 0} → (A → B → C) → Option A → Option B → Option C
both_of f (Some a) (Some b) = Some (f a b)
both_of f (Some a) None = None
both_of f None _ = None

-- ---- three truth values

abbrev pub both : Option Bool → Option Bool → Option Bool
both (Some false) _ = Some false
both (Some true) b = b
both None (Some false) = Some false
both None _ = None

abbrev pub either : Option Bool → Option Bool → Option Bool
either (Some true) _ = Some true
either (Some false) b = b
either None (Some true) = Some true
either None _ = None

-- true, and neither false nor unknown
abbrev pub holds : Option Bool → Bool
holds (Some b) = b
holds None = false

-- ---- comparisons: numbers by number alone, a STRING beside a DATE as a DATE; None where a side is
-- NULL, an array, or of another kind

abbrev pub layers_compare : Value-F Value → Value-F Value → Option Ordering
layers_compare (Value-F.Bool a) (Value-F.Bool b) = Some (bool_cmp a b)
layers_compare (Value-F.Int a) (Value-F.Int b) = Some (int_cmp a b)
layers_compare (Value-F.Int a) (Value-F.Big b) = Some (int_cmp a b)
layers_compare (Value-F.Big a) (Value-F.Int b) = Some (int_cmp a b)
layers_compare (Value-F.Big a) (Value-F.Big b) = Some (int_cmp a b)
layers_compare (Value-F.Str a) (Value-F.Str b) = Some (slice_cmp nat_cmp a b)
layers_compare (Value-F.Str a) (Value-F.Day b) = option_map (λ day. int_cmp day b) (day_of_text a)
layers_compare (Value-F.Day a) (Value-F.Str b) = option_map (λ day. int_cmp a day) (day_of_text b)
layers_compare (Value-F.Day a) (Value-F.Day b) = Some (int_cmp a b)
layers_compare _ _ = None

unfoldable pub compare : Value → Value → Option Ordering
compare x y = layers_compare (out-Value x) (out-Value y)

abbrev pub equal : Value → Value → Option Bool
equal x y = option_map is_eq (compare x y)

-- no operator compares an array, so it counts as NULL
abbrev pub layer_is_nothing : Value-F Value → Bool
layer_is_nothing Value-F.Null = true
layer_is_nothing (Value-F.Array items) = true
layer_is_nothing _ = false

-- `<=>`: two NULLs are equal, and NULL equals nothing else
abbrev pub null_safe_equal : Value → Value → Bool
null_safe_equal x y =
    if layer_is_nothing (out-Value x) then layer_is_nothing (out-Value y) else holds (equal x y)

-- ---- integers of both widths by one row: INT for two INT, else BIGINT; wraps in two's complement

abbrev pub int_wrapped : Option ℤ → Value
int_wrapped found = some_int (option_map (int_wrap w32) found)

abbrev pub big_wrapped : Option ℤ → Value
big_wrapped found = some_big (option_map (int_wrap w64) found)

abbrev pub layers_by : (Width → ℤ → ℤ → Option ℤ) → Value-F Value → Value-F Value → Value
layers_by f (Value-F.Int a) (Value-F.Int b) = int_wrapped (f w32 a b)
layers_by f (Value-F.Int a) (Value-F.Big b) = big_wrapped (f w64 a b)
layers_by f (Value-F.Big a) (Value-F.Int b) = big_wrapped (f w64 a b)
layers_by f (Value-F.Big a) (Value-F.Big b) = big_wrapped (f w64 a b)
layers_by f _ _ = value.Null

unfoldable pub by : (Width → ℤ → ℤ → Option ℤ) → Value → Value → Value
by f x y = layers_by f (out-Value x) (out-Value y)

abbrev pub layer_by_one : (ℤ → ℤ) → Value-F Value → Value
layer_by_one f (Value-F.Int a) = value.Int (int_wrap w32 (f a))
layer_by_one f (Value-F.Big a) = value.Big (int_wrap w64 (f a))
layer_by_one f _ = value.Null

unfoldable pub by_one : (ℤ → ℤ) → Value → Value
by_one f x = layer_by_one f (out-Value x)

-- ---- arrays

abbrev pub item_at : List Value → ℤ → Option Value
item_at items (pos n) = slice_get items n
item_at items (negsuc n) = None

abbrev pub found_item : SqlType → Option (List Value) → Option ℤ → Value
found_item kind (Some items) (Some n) = taken_or_null kind (item_at items n)
found_item kind (Some items) None = value.Null
found_item kind None _ = value.Null

-- the element from 0; out of range NULL
unfoldable pub element : SqlType → Value → Value → Value
element kind array place = found_item kind (items_of array) (number_of place)
