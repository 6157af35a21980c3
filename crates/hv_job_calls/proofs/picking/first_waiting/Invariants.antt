use Rattle.hv_history.specs.State.{state_of}
use Rattle.hv_job_calls.proofs.Notes.{NoneWaits}
use Rattle.hv_job_calls.proofs.picking.first_waiting.Given as goal

abbrev pub invariant-loop-i : goal.invariant-loop-i
invariant-loop-i l = NoneWaits (state_of l.book.entries) l.i
