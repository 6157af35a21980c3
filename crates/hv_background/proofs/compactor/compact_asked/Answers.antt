use Rattle.hv_actor.specs.Acting.{known}
use Rattle.hv_background.proofs.Items.{compacts-tested, stops-tested}
use Rattle.hv_background.proofs.compactor.compact_asked.Goals as goal

pub returns-in-Ok-clause-adds : goal.returns-in-Ok-clause-adds
returns-in-Ok-clause-adds g c =
    compacts-tested g.D.Shelf.told g.D.Shelf.faults g.W.Actor.between g.met.W.Actor.rows g.W.Actor.meanwhile
    (known (g.W.Actor.own c.args.actor.now) (g.W.Actor.house c.args.actor.now)) (known (g.W.Actor.own c.compact_one.new.actor) (g.W.Actor.house c.compact_one.new.actor))
    c.in-Ok.done c.in-Ok.ensures.compacts

pub returns-in-Err-clause-adds : goal.returns-in-Err-clause-adds
returns-in-Err-clause-adds g c =
    stops-tested g.D.Shelf.told g.D.Shelf.faults g.W.Actor.between g.met.W.Actor.rows g.W.Actor.meanwhile
    (known (g.W.Actor.own c.args.actor.now) (g.W.Actor.house c.args.actor.now)) (known (g.W.Actor.own c.compact_one.new.actor) (g.W.Actor.house c.compact_one.new.actor))
    c.in-Err.why c.in-Err.ensures.stops
