use Rattle.hv_trail.specs.Kept.{trail_of}
use Rattle.hv_acts.proofs.Gives.{lack-true, give-aborted, give-halted}
use Rattle.hv_acts.proofs.giving.give_none.Goals as goal

pub abort_full-requires-clause-truly : goal.abort_full-requires-clause-truly
abort_full-requires-clause-truly g c told = lack-true (trail_of c.args.house.now.trail) c.args.txn c.args.table c.requires.runs (c.requires.truly told)

pub returns-in-Ok : goal.returns-in-Ok
returns-in-Ok g c = record {
  given =
      give-aborted g.D.Shelf.told g.D.Shelf.faults c.args.txn c.args.table c.in-Ok.aborted c.args.house.now c.abort_full.new.house c.requires.runs c.requires.full
      c.in-Ok.ensures.noted;
  hard = c.abort_full.ensures.hard;
}

pub returns-in-Err : goal.returns-in-Err
returns-in-Err g c = record {
  given =
      give-halted g.D.Shelf.told g.D.Shelf.faults c.args.txn c.args.table c.in-Err.fault c.args.house.now c.abort_full.new.house c.requires.full c.in-Err.ensures.noted;
  hard = c.abort_full.ensures.hard;
}
