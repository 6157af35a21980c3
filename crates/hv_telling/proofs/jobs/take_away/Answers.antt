use Rattle.hv_telling.proofs.Removing.{same-start, gone-whole, gone-stays, gone-opens}
use Rattle.hv_telling.proofs.jobs.take_away.Goals as goal

pub returns-clause-whole : goal.returns-clause-whole
returns-clause-whole g c =
    gone-whole g.D.Shelf.told g.D.Shelf.faults c.args.dir c.args.house.now c.take_away.new.self c.requires.whole c.requires.truly
    c.take_away.result c.take_away.ensures.removed

pub returns-clause-stays : goal.returns-clause-stays
returns-clause-stays g c =
    gone-stays g.D.Shelf.told g.D.Shelf.faults c.args.dir c.args.house.now c.take_away.new.self c.requires.whole c.requires.truly
    c.take_away.result c.take_away.ensures.removed

pub returns-clause-opens : goal.returns-clause-opens
returns-clause-opens g c =
    gone-opens g.D.Shelf.told g.D.Shelf.faults c.args.dir c.args.house.now c.take_away.new.self c.requires.whole c.requires.truly
    c.take_away.result c.take_away.ensures.removed

pub returns-clause-start : goal.returns-clause-start
returns-clause-start g c =
    same-start g.D.Shelf.told g.D.Shelf.faults c.args.dir c.args.house.now c.take_away.new.self c.requires.whole c.requires.truly
    _ c.take_away.ensures.removed.step
