use Rattle.std.proofs.Common.{◌≡◌, drop}
use Rattle.hv_queue.specs.hv_history.specs.State.{state_of}
use Rattle.hv_job_fits.specs.Notes.{is_lowest}
use Rattle.hv_job_fits.proofs.waiting.is_lowest.Given as goal

abbrev pub invariant-loop-note : goal.invariant-loop-note
invariant-loop-note l =
    is_lowest (state_of l.book.entries) l.left (drop l.note-index l.notes) ≡ is_lowest (state_of l.book.entries) l.fn.number l.notes
