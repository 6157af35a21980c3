use Rattle.std.proofs.Common.{ap, ◌∙◌}
use Rattle.std.specs.Prelude.{◌&&◌}
use Rattle.hv_history.specs.State.{state_of, numbered}
use Rattle.hv_job_calls.proofs.Notes.{waits-by, waits-none}
use Rattle.hv_job_calls.proofs.picking.is_waiting.Goals as goal

pub returns-in-Some : goal.returns-in-Some
returns-in-Some c =
    c.both.ensures ∙ (λ i. c.is_initiated.ensures i && c.is_live.ensures i)
    ∙ waits-by (state_of c.args.book.now.entries) c.args.number c.in-Some.note.now
    (c.in-Some.ensures ∙ ap (λ ns. numbered ns c.args.number) c.jobs.ensures.jobs)

pub returns-in-None : goal.returns-in-None
returns-in-None c =
    waits-none (state_of c.args.book.now.entries) c.args.number (c.in-None.ensures ∙ ap (λ ns. numbered ns c.args.number) c.jobs.ensures.jobs)
