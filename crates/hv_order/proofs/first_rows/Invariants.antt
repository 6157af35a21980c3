use Rattle.std.proofs.Common.{◌≡◌, ◌++◌, List, length, IsTrue}
use Rattle.hv_value.specs.declared.row.Row.{Row}
use Rattle.hv_order.specs.First.{first_ordered, IsBounded}
use Rattle.hv_order.proofs.first_rows.Given as goal

-- what is kept gives the first of the rows that were taken
abbrev pub invariant-loop-row : goal.invariant-loop-row
invariant-loop-row l =
    (taken : List Row) × (l.fn.rows.items ≡ l.rows.items ++ taken) × (first_ordered l.keys l.count l.kept.items ≡ first_ordered l.keys l.count taken)
    × (IsTrue l.bounded → IsBounded l.keys l.count l.kept.items)

abbrev pub decreases-loop-row : goal.decreases-loop-row
decreases-loop-row l = length l.rows.items
