-- What is kept of a group in place of its rows: for each aggregate what it is over them.
use Rattle.std.specs.Prelude.{true, List, map, slice_get}
use Rattle.hv_value.specs.declared.sql_type.SqlType.{SqlType}
use Rattle.hv_value.specs.declared.sql_type.SqlType.TheVariants as type
use Rattle.hv_value.specs.declared.value.Value.{Value}
use Rattle.hv_value.specs.declared.value.Value.TheVariants as value
use Rattle.hv_expr.specs.declared.function.Aggregate.{Aggregate}
use Rattle.hv_expr.specs.declared.function.Aggregate.TheVariants as aggregate
use Rattle.hv_expr.specs.Values.{taken_or_null}
use Rattle.hv_expr.specs.Evaluation.{value_of}
use Rattle.hv_expr.specs.Groups.{over_values}
use Rattle.hv_typing.specs.Rows.{Frame}
use Rattle.hv_eval.specs.Accumulating.{merged, single}
use Rattle.hv_partial.specs.declared.sum.Numeric.{Numeric}
use Rattle.hv_partial.specs.declared.sum.Numeric.TheVariants as numeric
use Rattle.hv_partial.specs.declared.sum.Sum.{Sum}
use Rattle.hv_partial.specs.declared.sum.Sum.TheVariants as kind_of

abbrev pub aggregate_of : Numeric → Aggregate
aggregate_of numeric.Count = aggregate.Count
aggregate_of numeric.Total = aggregate.Sum

abbrev pub function_of : Sum → Aggregate
function_of kind_of.Rows = aggregate.Count
function_of (kind_of.Column function place kind) = function
function_of (kind_of.Computed number argument) = aggregate_of number

-- what is taken of a row; a row itself counts as a value that isn't NULL
abbrev pub taken_of : Sum → Frame → Value
taken_of kind_of.Rows row = value.Bool true
taken_of (kind_of.Column function place kind) row = taken_or_null kind (slice_get row place)
taken_of (kind_of.Computed number argument) row = value_of argument row

unfoldable pub sum_over : List Frame → Sum → Value
sum_over rows sum = over_values (function_of sum) (map (taken_of sum) rows)

abbrev pub sums_over : List Sum → List Frame → List Value
sums_over sums rows = map (sum_over rows) sums

-- what is kept with one value more
abbrev pub added : Aggregate → Value → Value → Value
added function kept v = merged function kept (single function v)

-- with one row more
unfoldable pub one_more : Sum → Value → Frame → Value
one_more sum kept row = added (function_of sum) kept (taken_of sum row)

-- the type at which an aggregate of a column of a type is taken
abbrev pub kind_over : Aggregate → SqlType → SqlType
kind_over aggregate.Count kind = type.BigInt
kind_over aggregate.Sum kind = type.BigInt
kind_over aggregate.Min kind = kind
kind_over aggregate.Max kind = kind
