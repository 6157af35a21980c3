use Rattle.std.proofs.Common.{ap, ◌∙◌}
use Rattle.hv_history.specs.State.{state_of, numbered}
use Rattle.hv_book.specs.declared.jobs.JobNote.{JobNote}
use Rattle.hv_job_calls.proofs.Notes.{by-note, none-job}
use Rattle.hv_job_acts.proofs.noting.kind_of.Goals as goal

pub returns-in-Some : goal.returns-in-Some
returns-in-Some c = λ j at.
    by-note (state_of c.args.book.now.entries).jobs c.args.job.0 c.in-Some.note.now (c.in-Some.ensures ∙ ap (λ ns. numbered ns c.args.job.0) c.jobs.ensures.jobs)
    (λ (note : JobNote). note.kind) j at

pub returns-in-None : goal.returns-in-None
returns-in-None c = λ j at.
    none-job (state_of c.args.book.now.entries).jobs c.args.job.0 (c.in-None.ensures ∙ ap (λ ns. numbered ns c.args.job.0) c.jobs.ensures.jobs) j at
