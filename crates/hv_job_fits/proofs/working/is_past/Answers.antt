use Rattle.std.proofs.Common.{sym, ap, ◌∙◌}
use Rattle.hv_queue.specs.hv_history.specs.State.{state_of}
use Rattle.hv_job_fits.specs.Notes.{is_past_mark, is_past_note}
use Rattle.hv_job_fits.proofs.working.is_past.Goals as goal

pub returns-in-Some : goal.returns-in-Some
returns-in-Some c =
    c.is_past_mark.ensures ∙ ap (is_past_mark c.in-Some.range.mark) c.ongoing.ensures.ongoing
    ∙ ap (is_past_note (state_of c.args.book.now.entries)) (sym c.in-Some.is)
