use Rattle.std.proofs.Common.{◌≡◌, ◌+◌, ◌≤◌, ℕ, length, take}
use Rattle.hv_book.specs.Past.{total}
use Rattle.hv_earlier.proofs.WalkLaws.{IsStop}
use Rattle.hv_counts.specs.declared.due.Due.{Due}
use Rattle.hv_counts.specs.Places.{dues_weight}
use Rattle.hv_counts.proofs.dues.push_ended.Given as goal

abbrev pub invariant-loop-number : goal.invariant-loop-number
invariant-loop-number l =
    ((weight : Due → ℕ)
    → total weight l.dues.items + total (dues_weight l.book.entries l.spot weight) (take l.number l.ids.ids)
    ≡ total weight l.fn.dues.items + total (dues_weight l.book.entries l.spot weight) l.ids.ids)
    × (l.number ≤ length l.ids.ids)
    × IsStop l.spot.table l.ids.ids l.number

abbrev pub decreases-loop-number : goal.decreases-loop-number
decreases-loop-number l = l.number
