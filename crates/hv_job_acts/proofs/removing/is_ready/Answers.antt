use Rattle.std.proofs.Common.{ap, ◌∙◌}
use Rattle.hv_history.specs.State.{state_of, numbered}
use Rattle.hv_job_acts.proofs.Notes.{ready-iff, unready-iff}
use Rattle.hv_job_acts.proofs.removing.is_ready.Goals as goal

pub returns-in-Some : goal.returns-in-Some
returns-in-Some c = record {
  ready =
      ready-iff (state_of c.args.book.now.entries) c.args.job.0 c.in-Some.note.now c.is_ready_note.result
      (c.in-Some.ensures ∙ ap (λ ns. numbered ns c.args.job.0) c.jobs.ensures.jobs) c.is_ready_note.ensures;
}

pub returns-in-None : goal.returns-in-None
returns-in-None c = record {
  ready =
      unready-iff (state_of c.args.book.now.entries) c.args.job.0 (c.in-None.ensures ∙ ap (λ ns. numbered ns c.args.job.0) c.jobs.ensures.jobs);
}
