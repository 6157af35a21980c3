use Rattle.std.proofs.Common.{List, ap, ◌∙◌}
use Rattle.hv_history.specs.declared.entry.Entry.{Entry}
use Rattle.hv_history.specs.State.{state_of}
use Rattle.hv_history.specs.Jobs.{has_busy}
use Rattle.hv_tallies.specs.declared.survey.Survey.{Survey}
use Rattle.hv_queue.proofs.SurveyLemmas.{busy-is}
use Rattle.hv_job_calls.proofs.asking.is_busy.Goals as goal

pub returns : goal.returns
returns g c = record {
  busy =
      ap (λ (s : Survey). s.busy) c.survey_in-jobs.ensures
      ∙ busy-is c.book.result.now.entries c.args.table.0 c.args.partition.now
      ∙ ap (λ (book : List Entry). has_busy (state_of book) c.args.table.0 c.args.partition.now) c.book.ensures.entries;
}
