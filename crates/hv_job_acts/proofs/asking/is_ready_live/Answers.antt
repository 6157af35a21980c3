use Rattle.std.proofs.Common.{ap, ◌∙◌}
use Rattle.std.specs.Prelude.{◌&&◌}
use Rattle.hv_history.specs.State.{state_of, numbered}
use Rattle.hv_job_acts.proofs.Notes.{ready-by, ready-none}
use Rattle.hv_job_acts.proofs.asking.is_ready_live.Goals as goal

pub returns-in-Some : goal.returns-in-Some
returns-in-Some c =
    c.both.ensures ∙ (λ i. c.is_ready_note.ensures i && c.is_live.ensures i)
    ∙ ready-by (state_of c.args.book.now.entries) c.args.number c.in-Some.note.now
    (c.in-Some.ensures ∙ ap (λ ns. numbered ns c.args.number) c.jobs.ensures.jobs)

pub returns-in-None : goal.returns-in-None
returns-in-None c =
    ready-none (state_of c.args.book.now.entries) c.args.number (c.in-None.ensures ∙ ap (λ ns. numbered ns c.args.number) c.jobs.ensures.jobs)
