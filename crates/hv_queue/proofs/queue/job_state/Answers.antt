use Rattle.std.proofs.Common.{ap, ◌∙◌}
use Rattle.hv_history.specs.State.{state_of, numbered}
use Rattle.hv_queue.specs.Queue.{note_state}
use Rattle.hv_tallies.proofs.NoteLemmas.{job-some, job-none}
use Rattle.hv_queue.proofs.NoteLemmas.{state-same, says-as}
use Rattle.hv_queue.proofs.queue.job_state.Goals as goal

pub returns-in-Some : goal.returns-in-Some
returns-in-Some c =
    let jobs = (state_of c.args.book.now.entries).jobs in
    let at_job = c.in-Some.ensures ∙ ap (λ ns. numbered ns c.args.job.0) c.jobs.ensures.jobs in
    record {
      state = λ j at. c.note_state.ensures ∙ ap note_state (job-some c.in-Some.note.now jobs c.args.job.0 j at_job at) ∙ state-same j;
      says = λ j at.
          says-as c.note_state.result j (c.note_state.ensures ∙ ap note_state (job-some c.in-Some.note.now jobs c.args.job.0 j at_job at) ∙ state-same j);
    }

pub returns-in-None : goal.returns-in-None
returns-in-None c =
    let jobs = (state_of c.args.book.now.entries).jobs in
    let at_job = c.in-None.ensures ∙ ap (λ ns. numbered ns c.args.job.0) c.jobs.ensures.jobs in
    record {
      state = λ j at. job-none jobs c.args.job.0 j at_job at;
      says = λ j at. job-none jobs c.args.job.0 j at_job at;
    }
