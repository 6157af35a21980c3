use Rattle.std.proofs.Common.{◌∙◌}
use Rattle.hv_acts.proofs.Notes.{state-there, late-open, open-by}
use Rattle.hv_acts.proofs.Endings.{tell-ended, tell-open}
use Rattle.hv_acts.proofs.ending.tell_end.Goals as goal

pub returns-in-Ended : goal.returns-in-Ended
returns-in-Ended g c = record {
  told =
      tell-ended g.D.Shelf.told g.D.Shelf.faults c.args.txn c.args.house.now c.requires.ready c.in-Ended.at c.told_at.result c.some_told.result
      (state-there c.args.house.now c.args.txn c.book.result.now.entries c.state_of.result c.book.ensures.entries c.state_of.ensures.state ∙ c.in-Ended.is)
      c.told_at.ensures.told c.some_told.ensures.some;
}

pub returns-in-Unknown : goal.returns-in-Unknown
returns-in-Unknown g c = record {
  told =
      tell-open g.D.Shelf.told g.D.Shelf.faults c.args.txn c.args.house.now c.requires.ready
      (late-open c.args.house.now c.args.txn c.book.result.now.entries c.state_of.result c.book.ensures.entries c.state_of.ensures.state (open-by c.state_of.result _ c.in-Unknown.is tt));
}

pub returns-in-Running : goal.returns-in-Running
returns-in-Running g c = record {
  told =
      tell-open g.D.Shelf.told g.D.Shelf.faults c.args.txn c.args.house.now c.requires.ready
      (late-open c.args.house.now c.args.txn c.book.result.now.entries c.state_of.result c.book.ensures.entries c.state_of.ensures.state (open-by c.state_of.result _ c.in-Running.is tt));
}
