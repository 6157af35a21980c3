use Rattle.hv_telling.specs.hv_house.specs.Steps.{seen_of}
use Rattle.hv_telling.specs.hv_house.proofs.Hards.{shuts_later}
use Rattle.hv_acts.proofs.Notes.{step-late, step-done, step-failed, fits-trail, fits-book, no-true}
use Rattle.hv_acts.proofs.noting.note_fitting.Goals as goal

pub returns-then-not-fits : goal.returns-then-not-fits
returns-then-not-fits g c = record {
  noted =
      step-late g.D.Shelf.told g.D.Shelf.faults c.args.txn c.args.entry c.late.result c.args.house.now c.requires.whole c.late.ensures.late
      (λ fits. no-true c.fits.result c.if-not-fits.true (c.fits.ensures.fits.1 (fits-book c.args.house.now c.args.entry fits)));
  hard = c.requires.hard;
}

pub note-requires-clause-truly : goal.note-requires-clause-truly
note-requires-clause-truly g c told = c.requires.truly told (fits-trail c.args.house.now c.args.entry (c.fits.ensures.fits.0 c.if-not-fits.false))

pub returns-in-Ok : goal.returns-in-Ok
returns-in-Ok g c = record {
  noted =
      step-done g.D.Shelf.told g.D.Shelf.faults c.args.txn c.args.entry tt c.args.house.now c.note.new.house c.requires.whole c.in-Ok.ensures.whole c.in-Ok.ensures.step
      (fits-trail c.args.house.now c.args.entry (c.fits.ensures.fits.0 c.if-not-fits.false));
  hard = shuts_later g.D.Shelf.told g.D.Shelf.faults g.D.Shelf.hard _ _ (seen_of c.args.house.now) (seen_of c.note.new.house) c.note.ensures.step c.note.ensures.hard c.requires.hard;
}

pub returns-in-Err : goal.returns-in-Err
returns-in-Err g c = record {
  noted =
      step-failed g.D.Shelf.told g.D.Shelf.faults c.args.txn c.args.entry c.in-Err.fault c.args.house.now c.note.new.house c.requires.whole c.requires.of_it c.requires.unopened
      (fits-trail c.args.house.now c.args.entry (c.fits.ensures.fits.0 c.if-not-fits.false)) c.in-Err.ensures.stays c.in-Err.ensures.halted
      c.in-Err.ensures.cause.failed c.in-Err.ensures.opens c.in-Err.ensures.start c.in-Err.ensures.step;
  hard = shuts_later g.D.Shelf.told g.D.Shelf.faults g.D.Shelf.hard _ _ (seen_of c.args.house.now) (seen_of c.note.new.house) c.note.ensures.step c.note.ensures.hard c.requires.hard;
}
