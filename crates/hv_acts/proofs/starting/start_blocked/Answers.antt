use Rattle.hv_trail.specs.Kept.{trail_of}
use Rattle.hv_history.specs.declared.entry.Cause.TheVariants as cause
use Rattle.hv_acts.proofs.Starts.{to-held, stop-aborted, stop-halted}
use Rattle.hv_acts.proofs.starting.start_blocked.Goals as goal

pub returns-in-Ok : goal.returns-in-Ok
returns-in-Ok g c = record {
  started =
      stop-aborted g.D.Shelf.told g.D.Shelf.faults c.args.txn (cause.Blocked c.args.holder) c.in-Ok.aborted c.args.house.now c.abort_blocked.new.house c.requires.held
      c.in-Ok.ensures.noted;
  hard = c.abort_blocked.ensures.hard;
}

pub returns-in-Err : goal.returns-in-Err
returns-in-Err g c = record {
  started =
      stop-halted g.D.Shelf.told g.D.Shelf.faults c.args.txn (cause.Blocked c.args.holder) c.in-Err.fault c.args.house.now c.abort_blocked.new.house
      (to-held (trail_of c.args.house.now.trail) c.args.txn c.args.holder c.requires.held) c.in-Err.ensures.noted;
  hard = c.abort_blocked.ensures.hard;
}
