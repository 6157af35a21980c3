-- An aggregate as a fold that can be taken part by part. What is kept of the values so far is what the aggregate
-- gives of them.
use Rattle.std.specs.Prelude.{◌≡◌, List, [], ◌∷◌, ◌++◌}
use Rattle.hv_value.specs.declared.value.Value.{Value}
use Rattle.hv_expr.specs.declared.function.Aggregate.{Aggregate}
use Rattle.hv_expr.specs.declared.function.Aggregate.TheVariants as aggregate
use Rattle.hv_expr.specs.Groups.{over_values}

-- counts are summed; a sum, a least and a greatest are taken again
abbrev pub merger : Aggregate → Aggregate
merger aggregate.Count = aggregate.Sum
merger aggregate.Sum = aggregate.Sum
merger aggregate.Min = aggregate.Min
merger aggregate.Max = aggregate.Max

-- what two parts keep
unfoldable pub merged : Aggregate → Value → Value → Value
merged function x y = over_values (merger function) (x ∷ y ∷ [])

-- what one value keeps
unfoldable pub single : Aggregate → Value → Value
single function v = over_values function (v ∷ [])

-- what a whole keeps is what its parts keep, put together
abbrev pub Splits : Type 0
Splits =
    (function : Aggregate) (xs ys : List Value) → merged function (over_values function xs) (over_values function ys) ≡ over_values function (xs ++ ys)
