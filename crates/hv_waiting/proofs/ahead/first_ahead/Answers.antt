use Rattle.std.proofs.Common.{ap, ◌∙◌}
use Rattle.hv_logic.specs.Names.{names_in}
use Rattle.hv_history.specs.State.{state_of}
use Rattle.hv_session.specs.hv_beginning.specs.hv_steps.specs.hv_table_reader.specs.hv_acts.specs.hv_telling.specs.hv_house.specs.hv_recovery.specs.hv_fits.specs.Texts.{first_among}
use Rattle.hv_waiting.specs.Queue.{ahead_among}
use Rattle.hv_waiting.proofs.Walks.{first-open}
use Rattle.hv_waiting.proofs.ahead.first_ahead.Goals as goal

pub returns : goal.returns
returns c = record {
  first =
      c.first_of.ensures ∙ ap (first_among (ahead_among c.args.own (names_in c.args.tree.now) (state_of c.args.book.now.entries).transactions)) c.ongoing.ensures.ongoing
      ∙ first-open c.args.own (names_in c.args.tree.now) (state_of c.args.book.now.entries).transactions;
}
