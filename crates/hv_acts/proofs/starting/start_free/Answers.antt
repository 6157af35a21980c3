use Rattle.hv_telling.specs.hv_house.proofs.Lengths.{short_start}
use Rattle.hv_acts.proofs.Starts.{go-noted, go-refused}
use Rattle.hv_acts.proofs.starting.start_free.Goals as goal

pub note_fitting-requires-clause-small : goal.note_fitting-requires-clause-small
note_fitting-requires-clause-small g c = short_start c.args.txn 0

pub returns-in-Ok : goal.returns-in-Ok
returns-in-Ok g c = record {
  started =
      go-noted g.D.Shelf.told g.D.Shelf.faults c.args.txn c.next_place-place.result c.args.house.now c.note_fitting.new.house c.next_place-place.ensures.place
      c.in-Ok.ensures.noted;
  hard = c.note_fitting.ensures.hard;
}

pub returns-in-Err : goal.returns-in-Err
returns-in-Err g c = record {
  started =
      go-refused g.D.Shelf.told g.D.Shelf.faults c.args.txn c.in-Err.fault c.args.house.now c.note_fitting.new.house c.requires.room c.requires.unheld
      c.in-Err.ensures.noted;
  hard = c.note_fitting.ensures.hard;
}
