use Rattle.hv_telling.proofs.Publishing.{same-start, published-whole, publish-stays, publish-opens}
use Rattle.hv_telling.proofs.jobs.publish.Goals as goal

pub returns-clause-whole : goal.returns-clause-whole
returns-clause-whole g c =
    published-whole g.D.Shelf.told g.D.Shelf.faults c.args.renamings.now c.args.entry c.args.house.now c.publish.new.self c.requires.whole c.requires.fits c.requires.truly
    c.publish.result c.publish.ensures.published

pub returns-clause-stays : goal.returns-clause-stays
returns-clause-stays g c =
    publish-stays g.D.Shelf.told g.D.Shelf.faults c.args.renamings.now c.args.entry c.args.house.now c.publish.new.self c.requires.whole c.requires.fits c.requires.truly
    c.publish.result c.publish.ensures.published

pub returns-clause-opens : goal.returns-clause-opens
returns-clause-opens g c =
    publish-opens g.D.Shelf.told g.D.Shelf.faults c.args.renamings.now c.args.entry c.args.house.now c.publish.new.self c.requires.whole c.requires.fits c.requires.truly
    c.publish.result c.publish.ensures.published

pub returns-clause-start : goal.returns-clause-start
returns-clause-start g c =
    same-start g.D.Shelf.told g.D.Shelf.faults c.args.renamings.now c.args.entry c.args.house.now c.publish.new.self c.requires.whole c.requires.fits c.requires.truly
    _ c.publish.ensures.published.step
