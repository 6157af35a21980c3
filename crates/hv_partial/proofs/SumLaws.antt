-- Sums of numbers are numbers.
use Rattle.std.proofs.Common.{◌≡◌, ℤ, [], ◌∷◌, Option, None, Some, sym, ap, ◌∙◌}
use Rattle.std.specs.Int.{int_wrap, w64}
use Rattle.hv_value.specs.declared.value.Value.{Value}
use Rattle.hv_value.specs.declared.value.Value.TheOpen.{Value-F}
use Rattle.hv_value.specs.declared.value.Value.TheVariants as value
use Rattle.hv_value.specs.declared.value.Value.TheVariants.{rolls-Null, rolls-Big}
use Rattle.hv_value.specs.declared.value.Value.TheViews.{out-Value, out-roll-Value}
use Rattle.hv_value.specs.Conversion.{some_big}
use Rattle.hv_expr.specs.Values.{number_of, layer_number}
use Rattle.hv_expr.specs.Groups.{sum_of, sum_value}
use Rattle.hv_eval.specs.Accumulating.{merged, single}
use Rattle.hv_partial.specs.declared.sum.Numeric.{Numeric}
use Rattle.hv_partial.specs.declared.sum.Numeric.TheVariants as numeric
use Rattle.hv_partial.specs.Sums.{aggregate_of, added}

big_number : (z : ℤ) → number_of (value.Big z) ≡ Some z
big_number z = ap layer_number (ap out-Value (sym (rolls-Big z)) ∙ out-roll-Value (Value-F.Big z))

no_number : number_of value.Null ≡ None
no_number = ap layer_number (ap out-Value (sym rolls-Null) ∙ out-roll-Value Value-F.Null)

sum_again : (o : Option ℤ) → some_big (number_of (sum_value o)) ≡ sum_value o
sum_again None = ap some_big no_number
sum_again (Some z) = ap some_big (big_number (int_wrap w64 z))

-- what is kept of numbers, read as a number, is itself
pub number_again : (number : Numeric) (kept v : Value) → some_big (number_of (added (aggregate_of number) kept v)) ≡ added (aggregate_of number) kept v
unfolding merged
number_again numeric.Count kept v = sum_again (sum_of (kept ∷ single (aggregate_of numeric.Count) v ∷ []))
number_again numeric.Total kept v = sum_again (sum_of (kept ∷ single (aggregate_of numeric.Total) v ∷ []))

pub ruleset numbers = (number_again)
