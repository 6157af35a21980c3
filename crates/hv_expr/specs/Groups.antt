-- What an aggregate gives of the values of its argument, one for each row of a group.
-- Source: Hive Language Manual, built-in aggregate functions. NULLs are passed over.
use Rattle.std.specs.Prelude.{Bool, not, if◌then◌else◌, List, [], ◌∷◌, length, ℤ, pos, ◌+ℤ◌, Option, Some, None}
use Rattle.std.specs.Int.{int_wrap, w64}
use Rattle.std.specs.Ordering.{is_lt, is_eq}
use Rattle.hv_value.specs.declared.value.Value.{Value}
use Rattle.hv_value.specs.declared.value.Value.TheVariants as value
use Rattle.hv_value.specs.declared.value.Value.TheViews.{out-Value}
use Rattle.hv_value.specs.Order.{value_cmp}
use Rattle.hv_expr.specs.declared.function.Aggregate.{Aggregate}
use Rattle.hv_expr.specs.declared.function.Aggregate.TheVariants as aggregate
use Rattle.hv_expr.specs.Values.{is_null, layer_is_nothing, number_of, or_null}

-- the values that a test lets through
abbrev pub those : (Value → Bool) → List Value → List Value
those test [] = []
those test (v ∷ vs) = if test v then v ∷ those test vs else those test vs

-- each value once, at its first place
abbrev pub once_each : List Value → List Value
once_each [] = []
once_each (v ∷ vs) = v ∷ those (λ w. not (is_eq (value_cmp v w))) (once_each vs)

abbrev pub known : Value → Bool
known v = not (is_null v)

-- the sum of the integers among them, None where there is none
abbrev pub plus : Option ℤ → Option ℤ → Option ℤ
plus None total = total
plus (Some a) None = Some a
plus (Some a) (Some b) = Some (a +ℤ b)

abbrev pub sum_of : List Value → Option ℤ
sum_of [] = None
sum_of (v ∷ vs) = plus (number_of v) (sum_of vs)

abbrev pub sum_value : Option ℤ → Value
sum_value None = value.Null
sum_value (Some z) = value.Big (int_wrap w64 z)

-- of two values the one that comes first, in the order of values
abbrev pub first_of : Value → Option Value → Value
first_of v None = v
first_of v (Some w) = if is_lt (value_cmp w v) then w else v

abbrev pub last_of : Value → Option Value → Value
last_of v None = v
last_of v (Some w) = if is_lt (value_cmp v w) then w else v

abbrev pub least : List Value → Option Value
least [] = None
least (v ∷ vs) = Some (first_of v (least vs))

abbrev pub greatest : List Value → Option Value
greatest [] = None
greatest (v ∷ vs) = Some (last_of v (greatest vs))

abbrev pub comparable : Value → Bool
comparable v = not (layer_is_nothing (out-Value v))

abbrev pub over_values : Aggregate → List Value → Value
over_values aggregate.Count values = value.Big (int_wrap w64 (pos (length (those known values))))
over_values aggregate.Sum values = sum_value (sum_of values)
over_values aggregate.Min values = or_null (least (those comparable values))
over_values aggregate.Max values = or_null (greatest (those comparable values))

-- with DISTINCT each value counts once
unfoldable pub aggregate_value : Aggregate → Bool → List Value → Value
aggregate_value function distinct values = over_values function (if distinct then once_each values else values)

abbrev pub row_count : {A : Type 0} → List A → Value
row_count rows = value.Big (int_wrap w64 (pos (length rows)))
