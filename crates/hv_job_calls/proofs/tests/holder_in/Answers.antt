use Rattle.std.proofs.Common.{sym, ap, ◌∙◌}
use Rattle.hv_history.specs.State.{state_of, numbered}
use Rattle.hv_job_calls.specs.Tests.{held_in}
use Rattle.hv_job_calls.proofs.Notes.{note-of, no-note, held-same}
use Rattle.hv_job_calls.proofs.tests.holder_in.Goals as goal

pub returns-in-Some : goal.returns-in-Some
returns-in-Some c =
    let state = state_of c.args.book.now.entries in
    let note = c.in-Some.ensures ∙ ap (λ ns. numbered ns c.args.job.0) c.jobs.ensures.jobs in
    let there = note-of state.jobs c.args.job.0 c.in-Some.note.now note in
    record { holder = c.holder_of.ensures ∙ held-same state c.args.job.0 c.in-Some.note.now note there.0 there.1 ∙ sym (ap (held_in state) there.1) }

pub returns-in-None : goal.returns-in-None
returns-in-None c =
    let state = state_of c.args.book.now.entries in
    record { holder = sym (ap (held_in state) (no-note state.jobs c.args.job.0 (c.in-None.ensures ∙ ap (λ ns. numbered ns c.args.job.0) c.jobs.ensures.jobs))) }
