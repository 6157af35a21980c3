use Rattle.std.proofs.Common.{sym, ap, ◌∙◌}
use Rattle.hv_history.specs.State.{state_of, numbered}
use Rattle.hv_history.specs.Jobs.{is_live_one}
use Rattle.hv_book.specs.declared.jobs.JobNote.{JobNote}
use Rattle.hv_job_calls.specs.Tests.{live_in}
use Rattle.hv_job_calls.proofs.Notes.{note-of, no-note}
use Rattle.hv_job_calls.proofs.tests.is_live_for.Goals as goal

pub returns-in-Some : goal.returns-in-Some
returns-in-Some c =
    let state = state_of c.args.book.now.entries in
    let there = note-of state.jobs c.args.job.0 c.in-Some.note.now (c.in-Some.ensures ∙ ap (λ ns. numbered ns c.args.job.0) c.jobs.ensures.jobs) in
    record { live = c.is_live.ensures ∙ ap (λ (note : JobNote). is_live_one (numbered state.tables note.table)) there.2 ∙ sym (ap (live_in state) there.1) }

pub returns-in-None : goal.returns-in-None
returns-in-None c =
    let state = state_of c.args.book.now.entries in
    record { live = sym (ap (live_in state) (no-note state.jobs c.args.job.0 (c.in-None.ensures ∙ ap (λ ns. numbered ns c.args.job.0) c.jobs.ensures.jobs))) }
