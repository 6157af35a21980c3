use Rattle.std.proofs.Common.{◌≤◌, IsPermutation}
use Rattle.hv_order.proofs.sort_ties.Given as goal

abbrev pub invariant-ties : goal.invariant-ties
invariant-ties l = IsPermutation l.initial.rows l.rows × (l.from ≤ l.to)
