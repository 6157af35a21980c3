use Rattle.std.proofs.Common.{ap, ◌∙◌}
use Rattle.hv_history.specs.State.{state_of, numbered}
use Rattle.hv_finals.proofs.RangeLemmas.{works-some, works-none}
use Rattle.hv_finals.proofs.merging.is_at_work.Goals as goal

pub returns-in-Some : goal.returns-in-Some
returns-in-Some c = record {
  works =
      c.is_working.ensures
      ∙ works-some c.in-Some.note.now (state_of c.args.book.now.entries).jobs c.args.job.0
      (c.in-Some.ensures ∙ ap (λ ns. numbered ns c.args.job.0) c.jobs.ensures.jobs);
}

pub returns-in-None : goal.returns-in-None
returns-in-None c = record {
  works = works-none (state_of c.args.book.now.entries).jobs c.args.job.0 (c.in-None.ensures ∙ ap (λ ns. numbered ns c.args.job.0) c.jobs.ensures.jobs);
}
