use Rattle.std.proofs.Common.{ap, ◌∙◌}
use Rattle.std.specs.Prelude.{◌&&◌}
use Rattle.hv_queue.specs.hv_history.specs.State.{state_of, numbered}
use Rattle.hv_queue.specs.hv_history.specs.JobsFit.{CleanedFits}
use Rattle.hv_job_fits.proofs.AskLemmas.{same-law}
use Rattle.hv_job_fits.proofs.WorkLemmas.{none-of-job, cleaned-law}
use Rattle.hv_job_fits.proofs.working.cleaned_fits.Goals as goal

pub returns-in-Some : goal.returns-in-Some
returns-in-Some c =
    let ready = c.is_ready-ready.result in
    record {
      fits =
          same-law _ c.both.result _ (c.both.ensures ∙ ap (λ b. ready && b) c.both-rest.ensures)
          (cleaned-law (state_of c.args.book.now.entries) c.args.job.0 c.in-Some.note c.args.limits.now ready c.is_past-past.result c.has_room-room.result
          c.is_ready-ready.ensures c.is_past-past.ensures c.has_room-room.ensures.room c.in-Some.ensures.note);
    }

pub returns-in-None : goal.returns-in-None
returns-in-None c =
    let state = state_of c.args.book.now.entries in
    record { fits = none-of-job (CleanedFits c.args.limits.now state) (numbered state.jobs c.args.job.0) c.in-None.ensures.note }
