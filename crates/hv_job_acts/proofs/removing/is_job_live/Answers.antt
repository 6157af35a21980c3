use Rattle.std.proofs.Common.{ap, ◌∙◌}
use Rattle.hv_history.specs.State.{state_of, numbered}
use Rattle.hv_book.specs.declared.jobs.JobNote.{JobNote}
use Rattle.hv_history.specs.Jobs.{is_live_one}
use Rattle.hv_job_calls.proofs.Notes.{by-note, none-job}
use Rattle.hv_job_acts.proofs.removing.is_job_live.Goals as goal

pub returns-in-Some : goal.returns-in-Some
returns-in-Some c = record {
  live = λ j at.
      let state = state_of c.args.book.now.entries in
      c.is_live.ensures
      ∙ by-note state.jobs c.args.job.0 c.in-Some.note.now (c.in-Some.ensures ∙ ap (λ ns. numbered ns c.args.job.0) c.jobs.ensures.jobs)
      (λ (note : JobNote). is_live_one (numbered state.tables note.table)) j at;
}

pub returns-in-None : goal.returns-in-None
returns-in-None c = record {
  live = λ j at.
      none-job (state_of c.args.book.now.entries).jobs c.args.job.0 (c.in-None.ensures ∙ ap (λ ns. numbered ns c.args.job.0) c.jobs.ensures.jobs) j at;
}
