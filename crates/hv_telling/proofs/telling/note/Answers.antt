use Rattle.hv_trail.specs.Steps.{Note}
use Rattle.hv_telling.proofs.Noting.{same-start, note-whole, note-stays, note-opens}
use Rattle.hv_telling.proofs.telling.note.Goals as goal

pub returns-clause-whole : goal.returns-clause-whole
returns-clause-whole g c =
    note-whole g.D.Shelf.told g.D.Shelf.faults c.args.entry c.args.house.now c.note.new.self c.requires.whole c.requires.fits c.requires.marked c.requires.truly
    c.note.result c.note.ensures.ready c.note.ensures.noted c.note.ensures.step

pub returns-clause-stays : goal.returns-clause-stays
returns-clause-stays g c =
    note-stays g.D.Shelf.told g.D.Shelf.faults c.args.entry c.args.house.now c.note.new.self c.requires.whole c.requires.fits c.requires.marked c.requires.truly
    c.note.result c.note.ensures.stays c.note.ensures.halted c.note.ensures.step

pub returns-clause-opens : goal.returns-clause-opens
returns-clause-opens g c =
    note-opens g.D.Shelf.told g.D.Shelf.faults c.args.entry c.args.house.now c.note.new.self c.requires.whole c.requires.fits c.requires.marked c.requires.truly
    c.note.result c.note.ensures.halted

pub returns-clause-start : goal.returns-clause-start
returns-clause-start g c =
    same-start g.D.Shelf.told g.D.Shelf.faults (Note c.args.entry) c.args.house.now c.note.new.self _ c.note.ensures.step
