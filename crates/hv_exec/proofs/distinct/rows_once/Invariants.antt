use Rattle.std.proofs.Common.{◌≡◌, reverse, length}
use Rattle.std.specs.List.{fold}
use Rattle.std.specs.Ordering.{eq_by_cmp}
use Rattle.hv_value.specs.Order.{row_cmp}
use Rattle.hv_typing.specs.Grouped.{distinct, keep_new}
use Rattle.hv_exec.proofs.distinct.rows_once.Given as goal

-- what is kept, with what is left, is what is kept of all
abbrev pub invariant-loop-row : goal.invariant-loop-row
invariant-loop-row l = fold (keep_new (eq_by_cmp row_cmp)) l.kept.keys (reverse l.rest.items) ≡ distinct (eq_by_cmp row_cmp) l.fn.rows.items

abbrev pub decreases-loop-row : goal.decreases-loop-row
decreases-loop-row l = length l.rest.items
