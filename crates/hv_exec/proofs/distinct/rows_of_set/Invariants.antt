use Rattle.std.proofs.Common.{◌≡◌, ◌++◌, reverse, length}
use Rattle.hv_exec.proofs.distinct.rows_of_set.Given as goal

abbrev pub invariant-loop-row : goal.invariant-loop-row
invariant-loop-row l = l.left.keys ++ reverse l.rows.items ≡ l.fn.set.keys

abbrev pub decreases-loop-row : goal.decreases-loop-row
decreases-loop-row l = length l.left.keys
