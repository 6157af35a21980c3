use Rattle.std.proofs.Common.{refl, ap, ◌∙◌}
use Rattle.hv_history.specs.State.{state_of, numbered}
use Rattle.hv_queue.specs.hv_tallies.proofs.NoteLemmas.{job-some, job-none}
use Rattle.hv_finals.proofs.RangeLemmas.{noted-there, merge-same}
use Rattle.hv_finals.proofs.merging.merge_of.Goals as goal

pub returns-in-Some : goal.returns-in-Some
returns-in-Some c =
    let jobs = (state_of c.args.book.now.entries).jobs in
    let at_job = c.in-Some.ensures ∙ ap (λ ns. numbered ns c.args.job.0) c.jobs.ensures.jobs in
    record {
      merge = λ j at.
          c.merge_noted.ensures
          ∙ merge-same c.in-Some.note.now c.pieces-merged.result (state_of c.args.book.now.entries) j
          (job-some c.in-Some.note.now jobs c.args.job.0 j at_job at) (c.pieces-merged.ensures.pieces j at);
      none = λ absent. noted-there c.in-Some.note.now jobs c.args.job.0 at_job absent;
    }

pub returns-in-None : goal.returns-in-None
returns-in-None c =
    let jobs = (state_of c.args.book.now.entries).jobs in
    let at_job = c.in-None.ensures ∙ ap (λ ns. numbered ns c.args.job.0) c.jobs.ensures.jobs in
    record {
      merge = λ j at. job-none jobs c.args.job.0 j at_job at;
      none = λ absent. refl;
    }
