use Rattle.hv_telling.proofs.Noting.{same-start, begin-whole, begin-stays, begin-opens}
use Rattle.hv_telling.proofs.telling.begin.Goals as goal

pub returns-clause-whole : goal.returns-clause-whole
returns-clause-whole g c =
    begin-whole g.D.Shelf.told g.D.Shelf.faults (record { session = c.args.session; number = c.args.number; text = c.args.text }) c.args.house.now c.begin.new.self
    c.requires.whole c.requires.fits c.begin.result c.begin.ensures.ready c.begin.ensures.noted c.begin.ensures.step

pub returns-clause-stays : goal.returns-clause-stays
returns-clause-stays g c =
    begin-stays g.D.Shelf.told g.D.Shelf.faults (record { session = c.args.session; number = c.args.number; text = c.args.text }) c.args.house.now c.begin.new.self
    c.requires.whole c.requires.fits c.begin.result c.begin.ensures.stays c.begin.ensures.halted c.begin.ensures.step

pub returns-clause-opens : goal.returns-clause-opens
returns-clause-opens g c =
    begin-opens g.D.Shelf.told g.D.Shelf.faults (record { session = c.args.session; number = c.args.number; text = c.args.text }) c.args.house.now c.begin.new.self
    c.requires.whole c.requires.fits c.begin.result c.begin.ensures.halted

pub returns-clause-start : goal.returns-clause-start
returns-clause-start g c =
    same-start g.D.Shelf.told g.D.Shelf.faults _ c.args.house.now c.begin.new.self _ c.begin.ensures.step
