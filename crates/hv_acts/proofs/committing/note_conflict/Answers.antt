use Rattle.hv_acts.proofs.Commits.{conflict-done, conflict-failed}
use Rattle.hv_acts.proofs.committing.note_conflict.Goals as goal

pub returns-in-Ok : goal.returns-in-Ok
returns-in-Ok g c = record {
  committed = λ wrote name places met.
      conflict-done g.D.Shelf.told g.D.Shelf.faults c.args.txn wrote name places c.args.conflict c.args.house.now c.note_abort.new.house met c.in-Ok.aborted c.in-Ok.ensures.noted;
  hard = c.note_abort.ensures.hard;
}

pub returns-in-Err : goal.returns-in-Err
returns-in-Err g c = record {
  committed = λ wrote name places met.
      conflict-failed g.D.Shelf.told g.D.Shelf.faults c.args.txn wrote name places c.args.conflict c.args.house.now c.note_abort.new.house met c.in-Err.fault c.in-Err.ensures.noted;
  hard = c.note_abort.ensures.hard;
}
