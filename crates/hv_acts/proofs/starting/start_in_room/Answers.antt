use Rattle.hv_telling.specs.hv_house.proofs.Lengths.{short_start}
use Rattle.hv_acts.proofs.Notes.{no-true}
use Rattle.hv_acts.proofs.Starts.{start-short, start-noted, start-refused}
use Rattle.hv_acts.proofs.starting.start_in_room.Goals as goal

pub returns-then-is_full : goal.returns-then-is_full
returns-then-is_full g c = record {
  started =
      start-short g.D.Shelf.told g.D.Shelf.faults c.args.txn c.next_place-place.result c.args.house.now c.requires.whole c.next_place-place.ensures.place
      (c.is_full.ensures.full.0 c.if-is_full.true) c.requires.unheld;
  hard = c.requires.hard;
}

pub note_fitting-requires-clause-small : goal.note_fitting-requires-clause-small
note_fitting-requires-clause-small g c = short_start c.args.txn 0

pub returns-in-Ok : goal.returns-in-Ok
returns-in-Ok g c = record {
  started =
      start-noted g.D.Shelf.told g.D.Shelf.faults c.args.txn c.next_place-place.result c.args.house.now c.note_fitting.new.house c.requires.unheld
      c.next_place-place.ensures.place c.in-Ok.ensures.noted;
  hard = c.note_fitting.ensures.hard;
}

pub returns-in-Err : goal.returns-in-Err
returns-in-Err g c = record {
  started =
      start-refused g.D.Shelf.told g.D.Shelf.faults c.args.txn c.in-Err.fault c.args.house.now c.note_fitting.new.house
      (λ full. no-true c.is_full.result c.if-is_full.false (c.is_full.ensures.full.1 full)) c.requires.unheld c.in-Err.ensures.noted;
  hard = c.note_fitting.ensures.hard;
}
