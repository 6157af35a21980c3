use Rattle.hv_acts.proofs.Starts.{same-holder, none-held, start-held}
use Rattle.hv_acts.proofs.starting.start_transaction.Goals as goal

pub returns-in-Some : goal.returns-in-Some
returns-in-Some g c = record {
  started =
      start-held g.D.Shelf.told g.D.Shelf.faults c.args.txn c.in-Some.by c.args.house.now c.requires.whole ((c.holder.ensures.held c.in-Some.by).0 c.in-Some.is)
      (λ other held. same-holder c.holder.result c.in-Some.by other c.in-Some.is ((c.holder.ensures.held other).1 held));
  hard = c.requires.hard;
}

pub start_in_room-requires-clause-unheld : goal.start_in_room-requires-clause-unheld
start_in_room-requires-clause-unheld g c by held = none-held c.holder.result by _ c.in-None.is (c.holder.ensures.held by) held
