use Rattle.hv_queue.specs.hv_history.specs.State.{state_of, numbered}
use Rattle.hv_queue.specs.hv_history.specs.JobsFit.{EmptyFits}
use Rattle.hv_job_fits.proofs.AskLemmas.{same-law}
use Rattle.hv_job_fits.proofs.WorkLemmas.{none-of-job, empty-law}
use Rattle.hv_job_fits.proofs.working.empty_fits.Goals as goal

pub returns-in-Some : goal.returns-in-Some
returns-in-Some c = record {
  fits =
      same-law _ c.both.result _ c.both.ensures
      (empty-law (state_of c.args.book.now.entries) c.args.job.0 c.in-Some.note c.is_working-working.result c.is_working-working.ensures
      c.pieces-merged.result c.is_empty-empty.result c.pieces-merged.ensures.pieces c.is_empty-empty.ensures c.in-Some.ensures.note);
}

pub returns-in-None : goal.returns-in-None
returns-in-None c =
    let state = state_of c.args.book.now.entries in
    record { fits = none-of-job (EmptyFits state) (numbered state.jobs c.args.job.0) c.in-None.ensures.note }
