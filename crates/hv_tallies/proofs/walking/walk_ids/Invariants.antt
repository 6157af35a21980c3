use Rattle.std.proofs.Common.{◌≡◌, drop, fold}
use Rattle.hv_jobs.specs.hv_history.specs.State.{state_of}
use Rattle.hv_tallies.specs.Tallies.{visited}
use Rattle.hv_tallies.proofs.walking.walk_ids.Given as goal

abbrev pub invariant-loop-id : goal.invariant-loop-id
invariant-loop-id l =
    fold (visited (state_of l.book.entries) l.table l.partition l.reach) l.sum (drop l.id-index l.ids)
    ≡ fold (visited (state_of l.book.entries) l.table l.partition l.reach) l.fn.tally l.ids
