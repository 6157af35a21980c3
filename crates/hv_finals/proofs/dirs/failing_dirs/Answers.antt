use Rattle.std.proofs.Common.{sym, ◌∙◌}
use Rattle.hv_history.specs.State.{state_of}
use Rattle.hv_finals.proofs.CallLemmas.{if-ok}
use Rattle.hv_finals.proofs.RangeLemmas.{number-named, merge-range}
use Rattle.hv_finals.proofs.DirLemmas.{failing-are, none-failing}
use Rattle.hv_finals.proofs.dirs.failing_dirs.Goals as goal

pub failing_by-requires-clause-number : goal.failing_by-requires-clause-number
failing_by-requires-clause-number c = number-named c.args.book.now.entries c.requires.named c.args.job.0 c.requires.works

pub failing_by-requires-clause-range : goal.failing_by-requires-clause-range
failing_by-requires-clause-range c =
    merge-range c.args.book.now.entries c.requires.named c.args.job.0 c.in-Some.merge c.merge_of.result c.requires.works c.merge_of.ensures.merge c.in-Some.is

pub returns-in-Some : goal.returns-in-Some
returns-in-Some c = record {
  dirs =
      if-ok c.failing_by.result _ _ c.failing_by.ensures.dirs
      (λ dirs are j at.
      failing-are c.args.book.now.entries c.args.job.0 j c.in-Some.merge dirs.items at (sym c.in-Some.is ∙ c.merge_of.ensures.merge j at) are);
}

pub returns-in-None : goal.returns-in-None
returns-in-None c = record {
  dirs = λ j at.
      none-failing (state_of c.args.book.now.entries) c.args.job.0 j _ c.new.ensures.items (sym c.in-None.is ∙ c.merge_of.ensures.merge j at);
}
