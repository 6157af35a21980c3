use Rattle.std.proofs.Common.{◌≡◌, [], length}
use Rattle.hv_order.specs.Parts.{rows_in}
use Rattle.hv_order.proofs.parts.empty_lists.Given as goal

abbrev pub invariant-loop-list : goal.invariant-loop-list
invariant-loop-list l = (rows_in l.lists.items ≡ []) × (length l.lists.items ≡ l._list)
