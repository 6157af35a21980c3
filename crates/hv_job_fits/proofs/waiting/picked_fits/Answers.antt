use Rattle.std.proofs.Common.{ap, ◌∙◌}
use Rattle.std.specs.Prelude.{◌&&◌}
use Rattle.hv_queue.specs.hv_history.specs.State.{state_of, numbered}
use Rattle.hv_queue.specs.hv_history.specs.JobsFit.{PickedFits}
use Rattle.hv_job_fits.specs.Notes.{is_lowest}
use Rattle.hv_job_fits.proofs.AskLemmas.{same-law}
use Rattle.hv_job_fits.proofs.WaitLemmas.{picked-law}
use Rattle.hv_job_fits.proofs.WorkLemmas.{none-of-job}
use Rattle.hv_job_fits.proofs.waiting.picked_fits.Goals as goal

pub returns-in-Some : goal.returns-in-Some
returns-in-Some c =
    let state = state_of c.args.book.now.entries in
    let lowest = c.is_lowest-lowest.result in
    record {
      fits =
          same-law _ c.both.result _ (c.both.ensures ∙ ap (λ b. lowest && b) c.both-rest.ensures)
          (picked-law state c.args.limits.now c.args.job.0 c.args.mark.0 c.watermark-front.result.0 c.in-Some.note lowest c.has_room-room.result
          (c.is_lowest-lowest.ensures ∙ ap (is_lowest state c.args.job.0) c.jobs.ensures.jobs) c.watermark-front.ensures.mark c.has_room-room.ensures.room
          c.in-Some.ensures.note);
    }

pub returns-in-None : goal.returns-in-None
returns-in-None c =
    let state = state_of c.args.book.now.entries in
    record { fits = none-of-job (PickedFits c.args.limits.now state c.args.job.0 c.args.mark.0) (numbered state.jobs c.args.job.0) c.in-None.ensures.note }
