use Rattle.std.proofs.Common.{◌≡◌, ◌+◌, ◌≤◌, ℕ, length, take}
use Rattle.hv_wids.specs.declared.list.Exception.{Exception}
use Rattle.hv_meta.specs.hv_book.specs.Past.{total}
use Rattle.hv_earlier.specs.Places.{weight_from}
use Rattle.hv_earlier.proofs.WalkLaws.{IsStop}
use Rattle.hv_earlier.proofs.exceptions.put_ended.Given as goal

abbrev pub invariant-loop-number : goal.invariant-loop-number
invariant-loop-number l =
    ((weight : Exception → ℕ)
    → total weight l.exceptions.items + total (weight_from l.notes l.forgotten l.spot l.from weight) (take l.number l.ids.ids)
    ≡ total weight l.fn.exceptions.items + total (weight_from l.notes l.forgotten l.spot l.from weight) l.ids.ids)
    × (l.number ≤ length l.ids.ids)
    × IsStop l.spot.table l.ids.ids l.number

abbrev pub decreases-loop-number : goal.decreases-loop-number
decreases-loop-number l = l.number
