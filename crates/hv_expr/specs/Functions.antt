-- The table of functions: what each gives of the values of its operands.
-- Source: Hive Language Manual, operators and functions. A function is NULL where an operand is NULL,
-- unless its row says otherwise.
use Rattle.std.specs.Prelude.{ℕ, ◌+◌, ◌++◌, ◌∷◌, [], Bool, true, false, not, if◌then◌else◌, List, length, ℤ, pos, negsuc, neg_ℤ, ◌+ℤ◌, ◌-ℤ◌, ◌*ℤ◌, int_div, int_rem, int_lt, unsigned_abs, Option, Some, None, option_map, option_and_then}
use Rattle.std.specs.Int.{int_wrap, int_rem_euclid, Width, w32}
use Rattle.std.specs.Ordering.{is_eq, is_ne, is_lt, is_le, is_gt, is_ge, int_eq}
use Rattle.hv_value.specs.declared.sql_type.SqlType.{SqlType}
use Rattle.hv_value.specs.declared.value.Value.{Value}
use Rattle.hv_value.specs.declared.value.Value.TheVariants as value
use Rattle.hv_value.specs.Conversion.{converted, some_int, some_day}
use Rattle.hv_value.specs.Dates.{date_add, date_sub, date_diff, year_of, month_of, day_of_month}
use Rattle.hv_text.specs.Characters.{character_count, lowered, raised, trimmed, substring, substring_from, found_behind}
use Rattle.hv_text.specs.Patterns.{is_like}
use Rattle.hv_expr.specs.declared.function.One.{One}
use Rattle.hv_expr.specs.declared.function.One.TheVariants as one
use Rattle.hv_expr.specs.declared.function.Two.{Two}
use Rattle.hv_expr.specs.declared.function.Two.TheVariants as two
use Rattle.hv_expr.specs.declared.function.Three.{Three}
use Rattle.hv_expr.specs.declared.function.Three.TheVariants as three
use Rattle.hv_expr.specs.declared.function.Many.{Many}
use Rattle.hv_expr.specs.declared.function.Many.TheVariants as many
use Rattle.hv_expr.specs.declared.function.Arithmetic.{Arithmetic}
use Rattle.hv_expr.specs.declared.function.Arithmetic.TheVariants as arithmetic
use Rattle.hv_expr.specs.Values.{truth_of, int_of, number_of, text_of, day_of, items_of, is_null, truth_value, text_value, int_value, both_of, both, either, holds, compare, equal, null_safe_equal, by, by_one, element}

-- ---- integers

-- by 0 nothing; the quotient is cut toward zero, the remainder has the dividend's sign
abbrev pub unless_zero : ℤ → ℤ → Option ℤ
unless_zero divisor result = if int_eq divisor (pos 0) then None else Some result

abbrev pub calculated : Arithmetic → Width → ℤ → ℤ → Option ℤ
calculated arithmetic.Add w a b = Some (a +ℤ b)
calculated arithmetic.Subtract w a b = Some (a -ℤ b)
calculated arithmetic.Multiply w a b = Some (a *ℤ b)
calculated arithmetic.Divide w a b = unless_zero b (int_div a b)
calculated arithmetic.Remainder w a b = unless_zero b (int_rem a b)

-- `((a % b) + b) % b`, which wraps at each step; for b above 0 the remainder in 0 to b - 1
abbrev pub positive_remainder : Width → ℤ → ℤ → ℤ
positive_remainder w a b =
    if int_lt (pos 0) b then int_rem_euclid a b else int_rem (int_wrap w (int_rem a b +ℤ b)) b

unfoldable pub pmod : Width → ℤ → ℤ → Option ℤ
pmod w a b = unless_zero b (positive_remainder w a b)

abbrev pub arithmetic_value : Arithmetic → Value → Value → Value
arithmetic_value operator x y = by (calculated operator) x y

-- ---- one operand

-- the length of an array; -1 for NULL
abbrev pub size_of : Option (List Value) → Value
size_of None = value.Int (negsuc 0)
size_of (Some items) = value.Int (int_wrap w32 (pos (length items)))

unfoldable pub one_value : One → SqlType → Value → Value
one_value one.Plus kind v = by_one (λ a. a) v
one_value one.Minus kind v = by_one neg_ℤ v
one_value one.Not kind v = truth_value (option_map not (truth_of v))
one_value one.IsNull kind v = value.Bool (is_null v)
one_value one.IsNotNull kind v = value.Bool (not (is_null v))
one_value one.Cast kind v = converted v kind
one_value one.Size kind v = size_of (items_of v)
one_value one.Length kind v = int_value (option_map (λ text. pos (character_count text)) (text_of v))
one_value one.Lower kind v = text_value (option_map lowered (text_of v))
one_value one.Upper kind v = text_value (option_map raised (text_of v))
one_value one.Trim kind v = text_value (option_map trimmed (text_of v))
one_value one.Abs kind v = by_one (λ a. pos (unsigned_abs a)) v
one_value one.Year kind v = some_int (option_and_then year_of (day_of v))
one_value one.Month kind v = some_int (option_and_then month_of (day_of v))
one_value one.Day kind v = some_int (option_and_then day_of_month (day_of v))

-- ---- two operands

-- the place from 1, or 0
abbrev pub place_of : Option ℕ → ℤ
place_of None = pos 0
place_of (Some skipped) = pos (skipped + 1)

abbrev pub instr : List ℕ → List ℕ → ℤ
instr text part = place_of (found_behind text part)

-- what a function of two gives, where it gives something
abbrev pub given : {A : Type 0} → Option (Option A) → Option A
given None = None
given (Some found) = found

unfoldable pub two_value : Two → SqlType → Value → Value → Value
two_value two.Equal kind x y = truth_value (option_map is_eq (compare x y))
two_value two.Unequal kind x y = truth_value (option_map is_ne (compare x y))
two_value two.Less kind x y = truth_value (option_map is_lt (compare x y))
two_value two.AtMost kind x y = truth_value (option_map is_le (compare x y))
two_value two.Greater kind x y = truth_value (option_map is_gt (compare x y))
two_value two.AtLeast kind x y = truth_value (option_map is_ge (compare x y))
two_value two.NullSafeEqual kind x y = value.Bool (null_safe_equal x y)
two_value two.Like kind x y = truth_value (both_of is_like (text_of x) (text_of y))
two_value two.NotLike kind x y = truth_value (option_map not (both_of is_like (text_of x) (text_of y)))
two_value two.Element kind x y = element kind x y
two_value two.Nvl kind x y = if is_null x then y else x
two_value two.Substr kind x y = text_value (both_of substring_from (text_of x) (number_of y))
two_value two.Substring kind x y = text_value (both_of substring_from (text_of x) (number_of y))
two_value two.Instr kind x y = int_value (both_of instr (text_of x) (text_of y))
two_value two.Pmod kind x y = by pmod x y
two_value two.DateAdd kind x y = some_day (given (both_of date_add (day_of x) (int_of y)))
two_value two.DateSub kind x y = some_day (given (both_of date_sub (day_of x) (int_of y)))
two_value two.DateDiff kind x y = some_int (given (both_of date_diff (day_of x) (day_of y)))

-- ---- three operands

-- `>=` and `<=`
abbrev pub between : Value → Value → Value → Option Bool
between x low high = both (option_map is_ge (compare x low)) (option_map is_le (compare x high))

abbrev pub part_of : Option (List ℕ) → Option ℤ → Option ℤ → Option (List ℕ)
part_of (Some text) (Some place) (Some count) = Some (substring text place count)
part_of (Some text) (Some place) None = None
part_of (Some text) None _ = None
part_of None _ _ = None

unfoldable pub three_value : Three → Value → Value → Value → Value
three_value three.If c x y = if holds (truth_of c) then x else y
three_value three.Between x low high = truth_value (between x low high)
three_value three.NotBetween x low high = truth_value (option_map not (between x low high))
three_value three.Substr s p n = text_value (part_of (text_of s) (number_of p) (number_of n))
three_value three.Substring s p n = text_value (part_of (text_of s) (number_of p) (number_of n))

-- ---- a row of operands

abbrev pub all_of : List Value → Option Bool
all_of [] = Some true
all_of (v ∷ vs) = both (truth_of v) (all_of vs)

abbrev pub any_of : List Value → Option Bool
any_of [] = Some false
any_of (v ∷ vs) = either (truth_of v) (any_of vs)

abbrev pub equals_any : Value → List Value → Option Bool
equals_any x [] = Some false
equals_any x (v ∷ vs) = either (equal x v) (equals_any x vs)

-- IN is the OR of equalities, NOT IN its NOT
unfoldable pub in_value : Bool → Value → List Value → Value
in_value negated x values = truth_value (if negated then option_map not (equals_any x values) else equals_any x values)

abbrev pub first_known : List Value → Value
first_known [] = value.Null
first_known (v ∷ vs) = if is_null v then first_known vs else v

abbrev pub joined : List Value → Option (List ℕ)
joined [] = Some []
joined (v ∷ vs) = both_of (λ a b. a ++ b) (text_of v) (joined vs)

unfoldable pub many_value : Many → List Value → Value
many_value many.And values = truth_value (all_of values)
many_value many.Or values = truth_value (any_of values)
many_value many.Coalesce values = first_known values
many_value many.Concat values = text_value (joined values)
many_value many.Array values = value.Array values
