use Rattle.hv_telling.specs.hv_house.specs.Steps.{seen_of}
use Rattle.hv_telling.specs.hv_house.proofs.Hards.{shuts_later}
use Rattle.hv_acts.proofs.Notes.{no-true}
use Rattle.hv_acts.proofs.Begins.{begin-done, begin-failed, begin-hindered}
use Rattle.hv_acts.proofs.opening.begin_free.Goals as goal

pub returns-then-not-can_begin : goal.returns-then-not-can_begin
returns-then-not-can_begin g c = record {
  begun =
      begin-hindered g.D.Shelf.told g.D.Shelf.faults c.args.session c.args.number c.args.text c.args.tree c.hindrance-why.result c.args.house.now c.requires.whole
      c.hindrance-why.ensures.hindered (λ can. no-true c.can_begin.result c.if-not-can_begin.true (c.can_begin.ensures.can.1 can));
  hard = c.requires.hard;
}

pub begin-requires-clause-fits : goal.begin-requires-clause-fits
begin-requires-clause-fits g c =
    c.can_begin.ensures.fits c.if-not-can_begin.false (record { session = c.args.session; number = c.args.number; text = c.args.text }) c.requires.runs

pub returns-in-Ok : goal.returns-in-Ok
returns-in-Ok g c = record {
  begun =
      begin-done g.D.Shelf.told g.D.Shelf.faults c.args.session c.args.number c.args.text c.args.tree _ c.args.house.now c.begin.new.house c.requires.whole
      c.in-Ok.ensures.whole (c.can_begin.ensures.can.0 c.if-not-can_begin.false) c.in-Ok.ensures.txn c.in-Ok.ensures.place c.in-Ok.ensures.step;
  hard = shuts_later g.D.Shelf.told g.D.Shelf.faults g.D.Shelf.hard _ _ (seen_of c.args.house.now) (seen_of c.begin.new.house) c.begin.ensures.step c.begin.ensures.hard c.requires.hard;
}

pub returns-in-Err : goal.returns-in-Err
returns-in-Err g c = record {
  begun =
      begin-failed g.D.Shelf.told g.D.Shelf.faults c.args.session c.args.number c.args.text c.args.tree c.in-Err.fault c.args.house.now c.begin.new.house
      c.requires.whole
      (c.can_begin.ensures.fits c.if-not-can_begin.false (record { session = c.args.session; number = c.args.number; text = c.args.text }) c.requires.runs)
      c.in-Err.ensures.stays c.in-Err.ensures.halted c.in-Err.ensures.cause.failed c.in-Err.ensures.ends
      c.in-Err.ensures.opens c.in-Err.ensures.start c.in-Err.ensures.step;
  hard = shuts_later g.D.Shelf.told g.D.Shelf.faults g.D.Shelf.hard _ _ (seen_of c.args.house.now) (seen_of c.begin.new.house) c.begin.ensures.step c.begin.ensures.hard c.requires.hard;
}
