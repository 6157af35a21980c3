use Rattle.std.proofs.Common.{sym, ap, ◌∙◌}
use Rattle.hv_history.specs.State.{state_of, numbered}
use Rattle.hv_finals.proofs.RangeLemmas.{works-none}
use Rattle.hv_finals.proofs.EndLemmas.{end-some, end-none}
use Rattle.hv_finals.proofs.ending.end_of.Goals as goal

pub returns-then-is_at_work : goal.returns-then-is_at_work
returns-then-is_at_work c = record {
  end =
      end-some c.args.whole.now (state_of c.args.book.now.entries) c.args.job.0 c.in-Some.note.now c.end_noted.result
      (c.in-Some.ensures ∙ ap (λ ns. numbered ns c.args.job.0) c.jobs.ensures.jobs)
      (sym c.is_at_work.ensures.works ∙ c.if-is_at_work.true) c.end_noted.ensures;
}

pub returns-else-is_at_work : goal.returns-else-is_at_work
returns-else-is_at_work c = record {
  end =
      end-none c.args.whole.now (state_of c.args.book.now.entries) c.args.job.0 (sym c.is_at_work.ensures.works ∙ c.if-is_at_work.false);
}

pub returns-in-None : goal.returns-in-None
returns-in-None c = record {
  end =
      end-none c.args.whole.now (state_of c.args.book.now.entries) c.args.job.0
      (sym (works-none (state_of c.args.book.now.entries).jobs c.args.job.0 (c.in-None.ensures ∙ ap (λ ns. numbered ns c.args.job.0) c.jobs.ensures.jobs)));
}
