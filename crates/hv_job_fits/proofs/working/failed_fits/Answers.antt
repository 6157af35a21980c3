use Rattle.std.proofs.Common.{ap, ◌∙◌}
use Rattle.std.specs.Prelude.{◌&&◌}
use Rattle.hv_queue.specs.hv_history.specs.State.{state_of, numbered}
use Rattle.hv_queue.specs.hv_history.specs.JobsFit.{FailedFits}
use Rattle.hv_job_fits.proofs.AskLemmas.{same-law}
use Rattle.hv_job_fits.proofs.WorkLemmas.{none-of-job, failed-law}
use Rattle.hv_job_fits.proofs.working.failed_fits.Goals as goal

pub returns-in-Some : goal.returns-in-Some
returns-in-Some c =
    let working = c.is_working-working.result in
    record {
      fits =
          same-law _ c.both.result _ (c.both.ensures ∙ ap (λ b. working && b) c.both-rest.ensures)
          (failed-law (state_of c.args.book.now.entries) c.args.job.0 c.in-Some.note working c.is_working-working.ensures c.args.cause.now
          c.is_live-live.result c.says_gone-gone.result c.is_fresh-fresh.result c.is_live-live.ensures c.says_gone-gone.ensures c.is_fresh-fresh.ensures.fits
          c.in-Some.ensures.note);
    }

pub returns-in-None : goal.returns-in-None
returns-in-None c =
    let state = state_of c.args.book.now.entries in
    record { fits = none-of-job (FailedFits state c.args.cause.now) (numbered state.jobs c.args.job.0) c.in-None.ensures.note }
