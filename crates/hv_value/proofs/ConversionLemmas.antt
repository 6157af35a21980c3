-- What a value converts to is of the type.
use Rattle.std.proofs.Common.{◌≡◌, ℕ, Bool, true, false, cond, ◌&&◌, List, [], ◌∷◌, map, refl, sym, ap, ◌∙◌, arith, ℤ, Option, Some, None, take, drop, ◌+◌}
use Rattle.std.specs.List.{list_all, prefix_len}
use Rattle.std.proofs.lemmas.Option.{none-some}
use Rattle.hv_value.specs.declared.dates.CivilDate.{CivilDate}
use Rattle.hv_value.specs.declared.sql_type.Elem.{Elem}
use Rattle.hv_value.specs.declared.sql_type.SqlType.{SqlType}
use Rattle.hv_value.specs.declared.sql_type.SqlType.TheVariants as type
use Rattle.hv_value.specs.declared.value.Value.{Value}
use Rattle.hv_value.specs.declared.value.Value.TheOpen.{Value-F}
use Rattle.hv_value.specs.declared.value.Value.TheVariants as value
use Rattle.hv_value.specs.declared.value.Value.TheVariants.{rolls-Null, rolls-Bool, rolls-Int, rolls-Big, rolls-Str, rolls-Day, rolls-Array}
use Rattle.hv_value.specs.declared.value.Value.TheViews.{out-Value, roll-Value, out-roll-Value}
use Rattle.hv_value.specs.Dates.{is_day, date_of, numbered, is_dashed, dashed_day, day_of_text, is_other_than_space}
use Rattle.hv_value.specs.Digits.{digit_count, numeral_value}
use Rattle.hv_value.specs.Conversion.{converted, from_bool, from_int, from_big, from_text, from_date, from_items, from_layer, some_int, some_big, some_day, int_of, big_of, is_layer_of, is_item_of, is_in_range, usable_item, is_item_in, is_layer_in, is_of}
use Rattle.hv_value.proofs.DateSteps.{date_of-no_day, numbered-day}

rolled : (to : SqlType) (v : Value) (x : Value-F Value) → roll-Value x ≡ v → is_layer_in to x ≡ true → is_of to v ≡ true
rolled to v x e h = ap (is_layer_in to) (ap out-Value (sym e) ∙ out-roll-Value x) ∙ h

null_layer : (to : SqlType) → is_layer_in to Value-F.Null ≡ true
null_layer to = refl

null_is : (to : SqlType) → is_of to value.Null ≡ true
null_is to = rolled to value.Null Value-F.Null rolls-Null (null_layer to)

bool_is : (b : Bool) → is_of type.Boolean (value.Bool b) ≡ true
bool_is b = rolled type.Boolean (value.Bool b) (Value-F.Bool b) (rolls-Bool b) refl

int_is : (z : ℤ) → is_of type.Int (value.Int z) ≡ true
int_is z = rolled type.Int (value.Int z) (Value-F.Int z) (rolls-Int z) refl

big_is : (z : ℤ) → is_of type.BigInt (value.Big z) ≡ true
big_is z = rolled type.BigInt (value.Big z) (Value-F.Big z) (rolls-Big z) refl

str_is : (text : List ℕ) → is_of type.Str (value.Str text) ≡ true
str_is text = rolled type.Str (value.Str text) (Value-F.Str text) (rolls-Str text) refl

day_is : (day : ℤ) → is_day day ≡ true → is_of type.Date (value.Day day) ≡ true
day_is day h = rolled type.Date (value.Day day) (Value-F.Day day) (rolls-Day day) h

bool_to : (b : Bool) (to : SqlType) → is_of to (from_bool b to) ≡ true
bool_to b type.Null = null_is type.Null
bool_to b type.Boolean = bool_is b
bool_to b type.Int = int_is _
bool_to b type.BigInt = big_is _
bool_to b type.Str = str_is _
bool_to b type.Date = null_is type.Date
bool_to b (type.ArrayOf e) = null_is (type.ArrayOf e)

int_to : (z : ℤ) (to : SqlType) → is_of to (from_int z to) ≡ true
int_to z type.Null = null_is type.Null
int_to z type.Boolean = bool_is _
int_to z type.Int = int_is z
int_to z type.BigInt = big_is z
int_to z type.Str = str_is _
int_to z type.Date = null_is type.Date
int_to z (type.ArrayOf e) = null_is (type.ArrayOf e)

big_to : (z : ℤ) (to : SqlType) → is_of to (from_big z to) ≡ true
big_to z type.Null = null_is type.Null
big_to z type.Boolean = bool_is _
big_to z type.Int = int_is _
big_to z type.BigInt = big_is z
big_to z type.Str = str_is _
big_to z type.Date = null_is type.Date
big_to z (type.ArrayOf e) = null_is (type.ArrayOf e)

some_int_is : (o : Option ℤ) → is_of type.Int (some_int o) ≡ true
some_int_is None = null_is type.Int
some_int_is (Some z) = int_is z

some_big_is : (o : Option ℤ) → is_of type.BigInt (some_big o) ≡ true
some_big_is None = null_is type.BigInt
some_big_is (Some z) = big_is z

some_day_is : (o : Option ℤ) → ((z : ℤ) → o ≡ Some z → is_day z ≡ true) → is_of type.Date (some_day o) ≡ true
some_day_is None h = null_is type.Date
some_day_is (Some z) h = day_is z (h z refl)

if_dashed : (b : Bool) (y m d : ℕ) (z : ℤ) → cond b (numbered y m d) None ≡ Some z → is_day z ≡ true
if_dashed true y m d z e = numbered-day y m d z e
if_dashed false y m d z e = absurd (none-some z e)

dashed_day-day : (bytes : List ℕ) (z : ℤ) → dashed_day bytes ≡ Some z → is_day z ≡ true
dashed_day-day bytes z e =
    if_dashed (is_dashed bytes) (numeral_value (take 4 bytes)) (numeral_value (take (digit_count (drop 5 bytes)) (drop 5 bytes)))
    (numeral_value (drop (digit_count (drop 5 bytes) + 1) (drop 5 bytes))) z e

text_to : (text : List ℕ) (to : SqlType) → is_of to (from_text text to) ≡ true
text_to text type.Null = null_is type.Null
text_to text type.Boolean = null_is type.Boolean
text_to text type.Int = some_int_is (int_of text)
text_to text type.BigInt = some_big_is (big_of text)
text_to text type.Str = str_is text
text_to text type.Date = some_day_is (day_of_text text) (λ z e. dashed_day-day (take (prefix_len is_other_than_space text) text) z e)
text_to text (type.ArrayOf e) = null_is (type.ArrayOf e)

date_of-day : (day : ℤ) (date : CivilDate) → date_of day ≡ Some date → is_day day ≡ true
date_of-day day date e = by (is_day day) refl
  where
    by : (b : Bool) → is_day day ≡ b → is_day day ≡ true
    by true same = same
    by false same = absurd (none-some date (sym (date_of-no_day day same) ∙ e))

date_to : (day : ℤ) (o : Option CivilDate) → date_of day ≡ o → (to : SqlType) → is_of to (from_date day o to) ≡ true
date_to day None e to = null_is to
date_to day (Some date) e type.Null = null_is type.Null
date_to day (Some date) e type.Boolean = null_is type.Boolean
date_to day (Some date) e type.Int = null_is type.Int
date_to day (Some date) e type.BigInt = null_is type.BigInt
date_to day (Some date) e type.Str = str_is _
date_to day (Some date) e type.Date = day_is day (date_of-day day date e)
date_to day (Some date) e (type.ArrayOf item) = null_is (type.ArrayOf item)

null_item : (e : Elem) → is_item_in e value.Null ≡ true
null_item e = ap (λ x. is_layer_of e x && is_in_range x) (ap out-Value (sym rolls-Null) ∙ out-roll-Value Value-F.Null)

usable_in : (e : Elem) (x : Value) → is_item_of e x ≡ true → is_item_in e (usable_item x) ≡ true
usable_in e x h = by (is_in_range (out-Value x)) refl
  where
    by : (b : Bool) → is_in_range (out-Value x) ≡ b → is_item_in e (cond (is_in_range (out-Value x)) x value.Null) ≡ true
    by true same = ap (λ b. is_item_in e (cond b x value.Null)) same ∙ (λ i. h i && same i)
    by false same = ap (λ b. is_item_in e (cond b x value.Null)) same ∙ null_item e

all_usable : (e : Elem) (items : List Value) → list_all (is_item_of e) items ≡ true → list_all (is_item_in e) (map usable_item items) ≡ true
all_usable e [] h = refl
all_usable e (x ∷ xs) h = grind (arith, usable_in e x, all_usable e xs)

items_to : (items : List Value) (to : SqlType) → is_of to (from_items items to) ≡ true
items_to items type.Null = null_is type.Null
items_to items type.Boolean = null_is type.Boolean
items_to items type.Int = null_is type.Int
items_to items type.BigInt = null_is type.BigInt
items_to items type.Str = null_is type.Str
items_to items type.Date = null_is type.Date
items_to items (type.ArrayOf e) = by (list_all (is_item_of e) items) refl
  where
    array : List Value
    array = map usable_item items

    by : (b : Bool) → list_all (is_item_of e) items ≡ b → is_of (type.ArrayOf e) (cond b (value.Array array) value.Null) ≡ true
    by true all = rolled (type.ArrayOf e) (value.Array array) (Value-F.Array array) (rolls-Array array) (all_usable e items all)
    by false all = null_is (type.ArrayOf e)

layer_to : (x : Value-F Value) (to : SqlType) → is_of to (from_layer x to) ≡ true
layer_to Value-F.Null to = null_is to
layer_to (Value-F.Bool b) to = bool_to b to
layer_to (Value-F.Int z) to = int_to z to
layer_to (Value-F.Big z) to = big_to z to
layer_to (Value-F.Str text) to = text_to text to
layer_to (Value-F.Day day) to = date_to day (date_of day) refl to
layer_to (Value-F.Array items) to = items_to items to

pub converted-is_of : (v : Value) (to : SqlType) → is_of to (converted v to) ≡ true
unfolding converted
converted-is_of v to = layer_to (out-Value v) to

pub ruleset conversions = (converted-is_of)
