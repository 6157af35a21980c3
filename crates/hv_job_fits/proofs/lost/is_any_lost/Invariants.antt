use Rattle.std.proofs.Common.{◌≡◌, drop}
use Rattle.std.specs.List.{list_any}
use Rattle.hv_queue.specs.hv_history.specs.State.{state_of}
use Rattle.hv_job_fits.specs.Notes.{is_lost_in}
use Rattle.hv_job_fits.proofs.lost.is_any_lost.Given as goal

abbrev pub invariant-loop-id : goal.invariant-loop-id
invariant-loop-id l =
    list_any (is_lost_in (state_of l.book.entries).transactions l.write) (drop l.id-index l.ids)
    ≡ list_any (is_lost_in (state_of l.book.entries).transactions l.write) l.ids
