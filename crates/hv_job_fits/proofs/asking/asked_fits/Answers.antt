use Rattle.std.proofs.Common.{ap, ◌∙◌}
use Rattle.std.specs.Prelude.{not, ◌==◌, ◌&&◌}
use Rattle.hv_queue.specs.hv_history.specs.State.{state_of}
use Rattle.hv_queue.specs.hv_tallies.specs.declared.survey.Survey.{Survey}
use Rattle.hv_queue.proofs.SurveyLemmas.{busy-is}
use Rattle.hv_job_fits.proofs.AskLemmas.{same-law, asked-law}
use Rattle.hv_job_fits.proofs.asking.asked_fits.Goals as goal

pub returns : goal.returns
returns c =
    let entries = c.args.book.now.entries in
    let live = c.is_live-live.result in
    let next = c.next_job-number.result in
    let busy = c.survey_in-jobs.result.busy in
    record {
      fits =
          same-law _ c.both.result _
          (c.both.ensures
          ∙ ap (λ b. live && b) (c.both-new.ensures ∙ ap (λ b. (c.args.job.0 == next) && b) (c.both-free.ensures ∙ ap (λ b. not busy && b) c.both-allowed.ensures)))
          (asked-law c.args.limits.now (state_of entries) c.args.job.0 c.args.table.0 c.args.partition.now c.args.kind c.args.by next live busy
          c.has_asker-asker.result c.has_room-room.result c.is_live-live.ensures c.next_job-number.ensures.next
          (ap (λ (s : Survey). s.busy) c.survey_in-jobs.ensures ∙ busy-is entries c.args.table.0 c.args.partition.now)
          c.has_asker-asker.ensures.asks c.has_room-room.ensures.room);
    }
