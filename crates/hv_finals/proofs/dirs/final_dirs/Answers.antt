use Rattle.std.proofs.Common.{sym, ◌∙◌}
use Rattle.hv_history.specs.State.{state_of}
use Rattle.hv_finals.proofs.CallLemmas.{if-ok}
use Rattle.hv_finals.proofs.RangeLemmas.{merge-range}
use Rattle.hv_finals.proofs.DirLemmas.{finals-are, none-finals}
use Rattle.hv_finals.proofs.dirs.final_dirs.Goals as goal

pub finals_by-requires : goal.finals_by-requires
finals_by-requires c = record {
  range =
      merge-range c.args.book.now.entries c.requires.named c.args.job.0 c.in-Some.merge c.merge_of.result c.requires.works c.merge_of.ensures.merge c.in-Some.is;
}

pub returns-in-Some : goal.returns-in-Some
returns-in-Some c = record {
  dirs =
      if-ok c.finals_by.result _ _ c.finals_by.ensures.dirs
      (λ dirs are j at.
      finals-are c.args.book.now.entries c.args.job.0 j c.in-Some.merge dirs.items at (sym c.in-Some.is ∙ c.merge_of.ensures.merge j at) are);
}

pub returns-in-None : goal.returns-in-None
returns-in-None c = record {
  dirs = λ j at.
      none-finals (state_of c.args.book.now.entries) j _ c.new.ensures.items (sym c.in-None.is ∙ c.merge_of.ensures.merge j at);
}
