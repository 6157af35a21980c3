use Rattle.hv_history.specs.declared.entry.Entry.TheVariants as entry
use Rattle.hv_telling.specs.hv_house.specs.Steps.{seen_of}
use Rattle.hv_telling.specs.hv_house.proofs.Hards.{shuts_later}
use Rattle.hv_acts.proofs.Notes.{fits-book}
use Rattle.hv_acts.proofs.Aborts.{abort-marked, abort-true, abort-done, abort-failed}
use Rattle.hv_acts.proofs.noting.note_abort.Goals as goal

pub note-requires-clause-fits : goal.note-requires-clause-fits
note-requires-clause-fits g c = fits-book c.args.house.now (entry.Abort c.args.txn c.args.cause) c.requires.fits

pub note-requires-clause-marked : goal.note-requires-clause-marked
note-requires-clause-marked g c = abort-marked c.args.house.now c.args.txn c.args.cause c.requires.marked

pub note-requires-clause-truly : goal.note-requires-clause-truly
note-requires-clause-truly g c told = abort-true c.args.house.now c.args.txn c.args.cause (c.requires.truly told)

pub returns-in-Ok : goal.returns-in-Ok
returns-in-Ok g c = record {
  noted =
      abort-done g.D.Shelf.told g.D.Shelf.faults c.args.txn c.args.cause c.args.aborted c.args.house.now c.note.new.house c.requires.whole
      c.in-Ok.ensures.whole c.requires.place c.requires.same c.in-Ok.ensures.step;
  hard = shuts_later g.D.Shelf.told g.D.Shelf.faults g.D.Shelf.hard _ _ (seen_of c.args.house.now) (seen_of c.note.new.house) c.note.ensures.step c.note.ensures.hard c.requires.hard;
}

pub returns-in-Err : goal.returns-in-Err
returns-in-Err g c = record {
  noted =
      abort-failed g.D.Shelf.told g.D.Shelf.faults c.args.txn c.args.cause c.args.aborted.text c.in-Err.fault c.args.house.now c.note.new.house c.requires.own c.requires.whole
      c.requires.fits c.in-Err.ensures.stays c.in-Err.ensures.halted c.in-Err.ensures.cause.failed
      c.in-Err.ensures.opens c.in-Err.ensures.start c.in-Err.ensures.step;
  hard = shuts_later g.D.Shelf.told g.D.Shelf.faults g.D.Shelf.hard _ _ (seen_of c.args.house.now) (seen_of c.note.new.house) c.note.ensures.step c.note.ensures.hard c.requires.hard;
}
