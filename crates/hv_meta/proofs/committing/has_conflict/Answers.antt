use Rattle.std.proofs.Common.{sym, ◌∙◌}
use Rattle.hv_book.specs.hv_history.specs.State.{state_of}
use Rattle.hv_meta.specs.Committing.{against}
use Rattle.hv_meta.proofs.CommitLemmas.{all-against}
use Rattle.hv_meta.proofs.committing.has_conflict.Goals as goal

pub returns : goal.returns
returns c = record {
  conflict =
      c.conflicts_behind.ensures ∙ sym (c.commits.ensures.commits (against c.args.place c.args.wrote.now))
      ∙ all-against c.args.place c.args.wrote.now (state_of c.args.book.now.entries).transactions;
}
