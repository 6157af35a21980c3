use Rattle.hv_jobs.specs.hv_history.specs.State.{state_of}
use Rattle.hv_tallies.specs.Tallies.{visited}
use Rattle.hv_tallies.proofs.WalkLemmas.{IsWalking}
use Rattle.hv_tallies.proofs.walking.walk_ended.Given as goal

abbrev pub invariant-loop-number : goal.invariant-loop-number
invariant-loop-number l = IsWalking (visited (state_of l.book.entries) l.table l.partition l.reach) l.table l.ids.ids l.number l.fn.tally l.sum

abbrev pub decreases-loop-number : goal.decreases-loop-number
decreases-loop-number l = l.number
