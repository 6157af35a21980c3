use Rattle.std.proofs.Common.{◌≡◌, ◌+◌, ◌≤◌, ℕ, length, take}
use Rattle.hv_dirs.specs.declared.names.DirName.{DirName}
use Rattle.hv_jobs.specs.hv_history.specs.State.{state_of}
use Rattle.hv_earlier.specs.hv_meta.specs.hv_book.specs.Past.{total, ended_weight}
use Rattle.hv_earlier.proofs.WalkLaws.{IsStop}
use Rattle.hv_tallies.specs.Covered.{names_weight}
use Rattle.hv_tallies.proofs.covering.put_ended.Given as goal

abbrev pub invariant-loop-number : goal.invariant-loop-number
invariant-loop-number l =
    ((weight : DirName → ℕ)
    → total weight l.names.items + total (ended_weight l.table (names_weight (state_of l.book.entries) l.table l.partition l.note weight)) (take l.number l.ids.ids)
    ≡ total weight l.fn.names.items + total (ended_weight l.table (names_weight (state_of l.book.entries) l.table l.partition l.note weight)) l.ids.ids)
    × (l.number ≤ length l.ids.ids)
    × IsStop l.table l.ids.ids l.number

abbrev pub decreases-loop-number : goal.decreases-loop-number
decreases-loop-number l = l.number
