use Rattle.std.proofs.Common.{◌≡◌, ◌≤◌, min, length, drop}
use Rattle.std.specs.Cmp.Lexicographic.{slice_cmp}
use Rattle.hv_value.specs.Order.{value_cmp}
use Rattle.hv_order.proofs.compare_all.Given as goal

abbrev pub invariant-loop-i : goal.invariant-loop-i
invariant-loop-i l =
    (l.i-end ≡ min (length l.left) (length l.right)) × (l.i ≤ l.i-end)
    × (slice_cmp value_cmp (drop l.i l.left) (drop l.i l.right) ≡ slice_cmp value_cmp l.left l.right)
