use Rattle.std.proofs.Common.{◌≡◌, ◌+◌, ◌<◌, ◌≤◌, ◌^◌, length, take}
use Rattle.hv_meta.specs.hv_book.specs.Past.{total}
use Rattle.hv_earlier.specs.Places.{given_from}
use Rattle.hv_earlier.proofs.WalkLaws.{IsStop}
use Rattle.hv_earlier.proofs.counts.given_since.Given as goal

abbrev pub invariant-loop-number : goal.invariant-loop-number
invariant-loop-number l =
    (l.count + total (given_from l.position l.table) (take l.number l.given.ids) ≡ total (given_from l.position l.table) l.given.ids)
    × (l.number ≤ length l.given.ids)
    × (l.count + l.number < 2 ^ 64)
    × IsStop l.table l.given.ids l.number

abbrev pub decreases-loop-number : goal.decreases-loop-number
decreases-loop-number l = l.number
