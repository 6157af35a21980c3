use Rattle.std.proofs.Common.{ap, ◌∙◌}
use Rattle.hv_logic.specs.Names.{names_in}
use Rattle.hv_history.specs.State.{state_of}
use Rattle.hv_fits.specs.Texts.{holds_among, first_among}
use Rattle.hv_fits.proofs.LockLemmas.{first-open}
use Rattle.hv_fits.proofs.locks.first_holder.Goals as goal

pub returns : goal.returns
returns c = record {
  holder =
      c.first_among.ensures ∙ ap (first_among (holds_among (names_in c.args.tree.now) (state_of c.args.book.now.entries).transactions)) c.ongoing.ensures.ongoing
      ∙ first-open (names_in c.args.tree.now) (state_of c.args.book.now.entries).transactions;
}
