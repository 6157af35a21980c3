use Rattle.hv_history.specs.State.{state_of, numbered}
use Rattle.hv_job_calls.proofs.Notes.{works-by}
use Rattle.hv_job_calls.proofs.tests.works_for.Goals as goal

pub returns : goal.returns
returns c = record {
  works =
      let state = state_of c.args.book.now.entries in
      works-by state (numbered state.jobs c.args.job.0) c.both.result c.is_at_work.result c.is_live_for.result c.both.ensures c.is_at_work.ensures.works
      c.is_live_for.ensures.live;
}
