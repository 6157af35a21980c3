use Rattle.std.proofs.Common.{List, length, ap, ◌∙◌}
use Rattle.std.proofs.lemmas.List.{length-map}
use Rattle.hv_history.specs.declared.entry.Entry.{Entry}
use Rattle.hv_history.specs.State.{state_of}
use Rattle.hv_book.specs.Briefs.{brief_job}
use Rattle.hv_house.proofs.house.House.job_count.Goals as goal

pub returns : goal.returns
returns g c = record {
  count =
      ap length c.jobs.ensures.jobs ∙ length-map (state_of c.book.result.now.entries).jobs brief_job
      ∙ ap (λ (b : List Entry). length (state_of b).jobs) c.book.ensures.entries;
}
