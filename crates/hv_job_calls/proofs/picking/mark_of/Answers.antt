use Rattle.std.proofs.Common.{ap, sym, ◌∙◌}
use Rattle.hv_history.specs.State.{state_of, numbered}
use Rattle.hv_history.specs.Jobs.{watermark}
use Rattle.hv_job_calls.specs.Refusals.{mark_at}
use Rattle.hv_job_calls.proofs.Notes.{note-of, no-note}
use Rattle.hv_job_calls.proofs.picking.mark_of.Goals as goal

pub returns-in-Some : goal.returns-in-Some
returns-in-Some c =
    let state = state_of c.args.book.now.entries in
    let there = note-of state.jobs c.args.number c.in-Some.note.now (c.in-Some.ensures ∙ ap (λ ns. numbered ns c.args.number) c.jobs.ensures.jobs) in
    record { mark = c.watermark.ensures.mark ∙ ap (λ note. watermark state note.table) there.2 ∙ sym (ap (mark_at state) there.1) }

pub returns-in-None : goal.returns-in-None
returns-in-None c =
    let state = state_of c.args.book.now.entries in
    record { mark = sym (ap (mark_at state) (no-note state.jobs c.args.number (c.in-None.ensures ∙ ap (λ ns. numbered ns c.args.number) c.jobs.ensures.jobs))) }
