-- Conversion of a value to a type (Hive Language Manual, types and CAST; what it leaves open is this
-- project's profile). What isn't a conversion counts as NULL.
use Rattle.std.specs.Prelude.{ℕ, ◌-◌, ◌^◌, ◌==◌, if◌then◌else◌, Bool, true, false, not, ◌&&◌, ◌||◌, slice_index, List, map, length, take, drop, nat_lt, ℤ, pos, negsuc, neg_ℤ, Option, None, Some, option_map, option_and_then, codes}
use Rattle.std.specs.Fmt.{signed_decimal}
use Rattle.std.specs.Int.{int_wrap, w32}
use Rattle.std.specs.List.{prefix_len, suffix_len, list_all}
use Rattle.std.specs.Ordering.{int_eq}
use Rattle.hv_value.specs.declared.dates.CivilDate.{CivilDate}
use Rattle.hv_value.specs.declared.sql_type.Elem.{Elem}
use Rattle.hv_value.specs.declared.sql_type.Elem.TheVariants as elem
use Rattle.hv_value.specs.declared.sql_type.SqlType.{SqlType}
use Rattle.hv_value.specs.declared.sql_type.SqlType.TheVariants as type
use Rattle.hv_value.specs.declared.value.Value.{Value}
use Rattle.hv_value.specs.declared.value.Value.TheOpen.{Value-F}
use Rattle.hv_value.specs.declared.value.Value.TheVariants as value
use Rattle.hv_value.specs.declared.value.Value.TheViews.{out-Value}
use Rattle.hv_value.specs.Dates.{date_of, is_day, civil_text, day_of_text}
use Rattle.hv_value.specs.Bytes.{space, plus_sign, minus_sign, point}
use Rattle.hv_value.specs.Digits.{digit_count, numeral_value}

-- ---- the table

-- Which types convert to which. NULL converts to each type and each type to itself; arrays convert to
-- their own type alone, but that an array of type NULL converts to every array.
abbrev pub is_convertible : SqlType → SqlType → Bool
is_convertible type.Null to = true
is_convertible type.Boolean type.Boolean = true
is_convertible type.Boolean type.Int = true
is_convertible type.Boolean type.BigInt = true
is_convertible type.Boolean type.Str = true
is_convertible type.Int type.Boolean = true
is_convertible type.Int type.Int = true
is_convertible type.Int type.BigInt = true
is_convertible type.Int type.Str = true
is_convertible type.BigInt type.Boolean = true
is_convertible type.BigInt type.Int = true
is_convertible type.BigInt type.BigInt = true
is_convertible type.BigInt type.Str = true
is_convertible type.Str type.Int = true
is_convertible type.Str type.BigInt = true
is_convertible type.Str type.Str = true
is_convertible type.Str type.Date = true
is_convertible type.Date type.Str = true
is_convertible type.Date type.Date = true
is_convertible (type.ArrayOf elem.Null) (type.ArrayOf to) = true
is_convertible (type.ArrayOf elem.Boolean) (type.ArrayOf elem.Boolean) = true
is_convertible (type.ArrayOf elem.Int) (type.ArrayOf elem.Int) = true
is_convertible (type.ArrayOf elem.BigInt) (type.ArrayOf elem.BigInt) = true
is_convertible (type.ArrayOf elem.Str) (type.ArrayOf elem.Str) = true
is_convertible (type.ArrayOf elem.Date) (type.ArrayOf elem.Date) = true
is_convertible _ _ = false

-- ---- reading an integer

abbrev pub is_space : ℕ → Bool
is_space byte = byte == space

abbrev pub without_end : List ℕ → List ℕ
without_end bytes = take (length bytes - suffix_len is_space bytes) bytes

abbrev pub without_front : List ℕ → List ℕ
without_front bytes = drop (prefix_len is_space bytes) bytes

-- the bytes without their outer spaces
abbrev pub trimmed : List ℕ → List ℕ
trimmed bytes = without_front (without_end bytes)

-- nothing, or a point with digits or none behind it
abbrev pub is_fraction : List ℕ → Bool
is_fraction bytes =
    let behind = drop 1 bytes in
    (length bytes == 0) || ((slice_index bytes 0 == point) && (digit_count behind == length behind))

-- one or more digits, and behind them a fraction, which is dropped
abbrev pub unsigned_of : List ℕ → Option ℕ
unsigned_of bytes =
    let digits = digit_count bytes in
    if nat_lt 0 digits && is_fraction (drop digits bytes) then Some (numeral_value (take digits bytes)) else None

-- with an optional sign before them
abbrev pub signed_of : List ℕ → Option ℤ
signed_of bytes =
    let first = slice_index bytes 0 in
    if first == minus_sign then option_map (λ n. neg_ℤ (pos n)) (unsigned_of (drop 1 bytes))
    else if first == plus_sign then option_map pos (unsigned_of (drop 1 bytes))
    else option_map pos (unsigned_of bytes)

-- the integer that a text writes, however large
abbrev pub integer_of : List ℕ → Option ℤ
integer_of text = signed_of (trimmed text)

-- z is an INT, z is a BIGINT
abbrev pub is_int : ℤ → Bool
is_int (pos n) = nat_lt n (2 ^ 31)
is_int (negsuc n) = nat_lt n (2 ^ 31)

abbrev pub is_big : ℤ → Bool
is_big (pos n) = nat_lt n (2 ^ 63)
is_big (negsuc n) = nat_lt n (2 ^ 63)

abbrev pub kept_if : (ℤ → Bool) → ℤ → Option ℤ
kept_if test z = if test z then Some z else None

abbrev pub int_of : List ℕ → Option ℤ
int_of text = option_and_then (kept_if is_int) (integer_of text)

abbrev pub big_of : List ℕ → Option ℤ
big_of text = option_and_then (kept_if is_big) (integer_of text)

-- ---- from each kind

abbrev pub some_int : Option ℤ → Value
some_int None = value.Null
some_int (Some z) = value.Int z

abbrev pub some_big : Option ℤ → Value
some_big None = value.Null
some_big (Some z) = value.Big z

abbrev pub some_day : Option ℤ → Value
some_day None = value.Null
some_day (Some z) = value.Day z

abbrev pub from_bool : Bool → SqlType → Value
from_bool b type.Boolean = value.Bool b
from_bool b type.Int = value.Int (if b then pos 1 else pos 0)
from_bool b type.BigInt = value.Big (if b then pos 1 else pos 0)
from_bool b type.Str = value.Str (if b then codes "TRUE" else codes "FALSE")
from_bool b _ = value.Null

abbrev pub is_nonzero : ℤ → Bool
is_nonzero z = not (int_eq z (pos 0))

abbrev pub from_int : ℤ → SqlType → Value
from_int z type.Boolean = value.Bool (is_nonzero z)
from_int z type.Int = value.Int z
from_int z type.BigInt = value.Big z
from_int z type.Str = value.Str (signed_decimal z)
from_int z _ = value.Null

-- a BIGINT keeps its low 32 bits as an INT
abbrev pub from_big : ℤ → SqlType → Value
from_big z type.Boolean = value.Bool (is_nonzero z)
from_big z type.Int = value.Int (int_wrap w32 z)
from_big z type.BigInt = value.Big z
from_big z type.Str = value.Str (signed_decimal z)
from_big z _ = value.Null

abbrev pub from_text : List ℕ → SqlType → Value
from_text text type.Int = some_int (int_of text)
from_text text type.BigInt = some_big (big_of text)
from_text text type.Str = value.Str text
from_text text type.Date = some_day (day_of_text text)
from_text text _ = value.Null

abbrev pub from_date : ℤ → Option CivilDate → SqlType → Value
from_date day None to = value.Null
from_date day (Some date) type.Str = value.Str (civil_text date)
from_date day (Some date) type.Date = value.Day day
from_date day (Some date) _ = value.Null

-- a day number that is no date's counts as NULL
abbrev pub from_day : ℤ → SqlType → Value
from_day day to = from_date day (date_of day) to

-- NULL, or a value of the element type
abbrev pub is_layer_of : Elem → Value-F Value → Bool
is_layer_of e Value-F.Null = true
is_layer_of elem.Boolean (Value-F.Bool b) = true
is_layer_of elem.Int (Value-F.Int z) = true
is_layer_of elem.BigInt (Value-F.Big z) = true
is_layer_of elem.Str (Value-F.Str text) = true
is_layer_of elem.Date (Value-F.Day day) = true
is_layer_of _ _ = false

abbrev pub is_item_of : Elem → Value → Bool
is_item_of e item = is_layer_of e (out-Value item)

-- a DATE out of range counts as NULL within an array too
abbrev pub is_in_range : Value-F Value → Bool
is_in_range (Value-F.Day day) = is_day day
is_in_range _ = true

abbrev pub usable_item : Value → Value
usable_item item = if is_in_range (out-Value item) then item else value.Null

-- an array converts to its own type alone
abbrev pub from_items : List Value → SqlType → Value
from_items items (type.ArrayOf e) =
    if list_all (is_item_of e) items then value.Array (map usable_item items) else value.Null
from_items items _ = value.Null

abbrev pub from_layer : Value-F Value → SqlType → Value
from_layer Value-F.Null to = value.Null
from_layer (Value-F.Bool b) to = from_bool b to
from_layer (Value-F.Int z) to = from_int z to
from_layer (Value-F.Big z) to = from_big z to
from_layer (Value-F.Str text) to = from_text text to
from_layer (Value-F.Day day) to = from_day day to
from_layer (Value-F.Array items) to = from_items items to

-- the value as a value of the type
unfoldable pub converted : Value → SqlType → Value
converted v to = from_layer (out-Value v) to

-- ---- values of a type

-- NULL, or a value of the element type, a DATE in range
abbrev pub is_item_in : Elem → Value → Bool
is_item_in e item = is_item_of e item && is_in_range (out-Value item)

abbrev pub is_layer_in : SqlType → Value-F Value → Bool
is_layer_in to Value-F.Null = true
is_layer_in type.Boolean (Value-F.Bool b) = true
is_layer_in type.Int (Value-F.Int z) = true
is_layer_in type.BigInt (Value-F.Big z) = true
is_layer_in type.Str (Value-F.Str text) = true
is_layer_in type.Date (Value-F.Day day) = is_day day
is_layer_in (type.ArrayOf e) (Value-F.Array items) = list_all (is_item_in e) items
is_layer_in _ _ = false

-- NULL, or a value of the type, each DATE in range
abbrev pub is_of : SqlType → Value → Bool
is_of to v = is_layer_in to (out-Value v)
