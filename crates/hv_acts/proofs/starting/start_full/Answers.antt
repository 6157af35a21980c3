use Rattle.hv_trail.specs.Kept.{trail_of}
use Rattle.hv_history.specs.declared.entry.Cause.TheVariants as cause
use Rattle.hv_acts.proofs.Starts.{to-full, full-fits, full-true, full-way, stop-aborted, stop-halted}
use Rattle.hv_acts.proofs.starting.start_full.Goals as goal

pub abort_full-requires-clause-full : goal.abort_full-requires-clause-full
abort_full-requires-clause-full g c = full-fits (trail_of c.args.house.now.trail) c.args.txn c.requires.full

pub abort_full-requires-clause-truly : goal.abort_full-requires-clause-truly
abort_full-requires-clause-truly g c told = full-true (trail_of c.args.house.now.trail) c.args.txn c.requires.full

pub returns-in-Ok : goal.returns-in-Ok
returns-in-Ok g c = record {
  started =
      stop-aborted g.D.Shelf.told g.D.Shelf.faults c.args.txn cause.Full c.in-Ok.aborted c.args.house.now c.abort_full.new.house
      (full-way (trail_of c.args.house.now.trail) c.args.txn c.requires.full c.requires.unheld) c.in-Ok.ensures.noted;
  hard = c.abort_full.ensures.hard;
}

pub returns-in-Err : goal.returns-in-Err
returns-in-Err g c = record {
  started =
      stop-halted g.D.Shelf.told g.D.Shelf.faults c.args.txn cause.Full c.in-Err.fault c.args.house.now c.abort_full.new.house
      (to-full (trail_of c.args.house.now.trail) c.args.txn c.requires.full c.requires.unheld) c.in-Err.ensures.noted;
  hard = c.abort_full.ensures.hard;
}
