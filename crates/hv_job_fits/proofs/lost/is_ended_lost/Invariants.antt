use Rattle.std.proofs.Common.{◌≡◌, ◌≤◌, length, take}
use Rattle.hv_queue.specs.hv_history.specs.State.{state_of}
use Rattle.hv_queue.specs.hv_tallies.specs.hv_earlier.specs.hv_meta.specs.hv_book.specs.Past.{total, ended_weight}
use Rattle.hv_queue.specs.hv_tallies.specs.hv_earlier.proofs.WalkLaws.{IsStop}
use Rattle.hv_job_fits.specs.Notes.{lost_weight}
use Rattle.hv_job_fits.proofs.lost.is_ended_lost.Given as goal

abbrev pub invariant-loop-number : goal.invariant-loop-number
invariant-loop-number l =
    (total (ended_weight l.fn.table (lost_weight (state_of l.book.entries).transactions l.write)) (take l.number l.ids.ids)
    ≡ total (ended_weight l.fn.table (lost_weight (state_of l.book.entries).transactions l.write)) l.ids.ids)
    × (l.number ≤ length l.ids.ids)
    × IsStop l.fn.table l.ids.ids l.number

abbrev pub decreases-loop-number : goal.decreases-loop-number
decreases-loop-number l = l.number
