use Rattle.hv_steps.proofs.Looks.{looks-read, rows-before}
use Rattle.hv_steps.specs.Wanting.{picked}
use Rattle.hv_steps.proofs.seeing.read_now.Goals as goal

pub read_rows-requires-clause-reads : goal.read_rows-requires-clause-reads
read_rows-requires-clause-reads g c = c.requires.found.reads

pub read_rows-requires-clause-named : goal.read_rows-requires-clause-named
read_rows-requires-clause-named g c = c.requires.found.named

pub returns-clause-looks : goal.returns-clause-looks
returns-clause-looks g c =
    looks-read g.D.Shelf.told g.D.Shelf.faults g.W.Actor.between g.met.W.Actor.rows g.W.Actor.meanwhile c.args.by
    (g.W.Actor.own c.args.actor.now) (g.W.Actor.own c.read_rows.new.actor) (g.W.Actor.house c.args.actor.now) (g.W.Actor.house c.read_rows.new.actor)
    c.read_rows.result c.read_rows.ensures.looks c.read_rows.ensures.short c.read_rows.ensures.undamaged

pub returns-clause-rows : goal.returns-clause-rows
returns-clause-rows g c =
    rows-before g.D.Shelf.told g.D.Shelf.faults g.W.Actor.between g.met.W.Actor.rows
    (g.W.Actor.own c.args.actor.now) (g.W.Actor.own c.read_rows.new.actor) (g.W.Actor.house c.args.actor.now) (g.W.Actor.house c.read_rows.new.actor)
    c.args.place (picked c.args.wanting.now) c.args.info.now c.read_rows.result c.read_rows.ensures.looks.adds c.requires.found.reads.reader.has
    c.read_rows.ensures.rows
