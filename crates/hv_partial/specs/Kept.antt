-- A group of which its first row and its sums are kept.
use Rattle.std.specs.Prelude.{Bool, true, if◌then◌else◌, List, [], ◌∷◌, ◌++◌, Option, None, Some}
use Rattle.hv_value.specs.declared.value.Value.{Value}
use Rattle.hv_value.specs.declared.row.Row.{Row}
use Rattle.hv_expr.specs.Values.{truth_of, holds}
use Rattle.hv_expr.specs.Evaluation.{values_of}
use Rattle.hv_typing.specs.Rows.{Frame}
use Rattle.hv_partial.specs.declared.select.Lifted.{Lifted}
use Rattle.hv_partial.specs.declared.sum.Sum.{Sum}
use Rattle.hv_partial.specs.Sums.{sums_over, one_more}
use Rattle.hv_partial.specs.Lifts.{maybe_of}

abbrev pub head_of : List Frame → Option Frame
head_of [] = None
head_of (row ∷ rows) = Some row

-- what is kept of these rows
abbrev pub summed : List Sum → List Frame → Option Frame × List Value
summed sums rows = (head_of rows, sums_over sums rows)

abbrev pub first_or : Option Frame → Frame → Frame
first_or None row = row
first_or (Some first) row = first

abbrev pub each_more : List Sum → List Value → Frame → List Value
each_more [] values row = values
each_more (sum ∷ sums) [] row = []
each_more (sum ∷ sums) (kept ∷ values) row = one_more sum kept row ∷ each_more sums values row

-- with one row more
unfoldable pub summed_more : List Sum → Option Frame × List Value → Frame → Option Frame × List Value
summed_more sums kept row = (Some (first_or kept.0 row), each_more sums kept.1 row)

abbrev pub or_no_values : Option Frame → Frame
or_no_values None = []
or_no_values (Some row) = row

-- whether a condition that may be left out holds
abbrev pub holds_if : Option Value → Bool
holds_if None = true
holds_if (Some v) = holds (truth_of v)

abbrev pub shown_if : Bool → List Value → Option (List Value)
shown_if met values = if met then Some values else None

-- the sums, and the first row behind them
abbrev pub row_by : Option Frame × List Value → Frame
row_by kept = kept.1 ++ or_no_values kept.0

-- the items over a group, where HAVING holds over it, by what is kept of the group
unfoldable pub shown_by : Lifted → Option Frame × List Value → Option (List Value)
shown_by lifted kept = shown_if (holds_if (maybe_of lifted.having (row_by kept))) (values_of lifted.items (row_by kept))

abbrev pub rows_shown : Option (List Value) → List Row
rows_shown None = []
rows_shown (Some values) = record { values = values } ∷ []
