use Rattle.hv_actor.specs.Acting.{known}
use Rattle.hv_background.specs.Rounds.{is_compactors}
use Rattle.hv_background.proofs.Items.{tested-more, initiates-tested, initiates-less}
use Rattle.hv_background.proofs.compactor.compact_round.Goals as goal

pub returns-in-Ok-clause-adds : goal.returns-in-Ok-clause-adds
returns-in-Ok-clause-adds g c =
    tested-more g.D.Shelf.told g.D.Shelf.faults g.W.Actor.between g.met.W.Actor.rows g.W.Actor.meanwhile is_compactors
    (known (g.W.Actor.own c.args.actor.now) (g.W.Actor.house c.args.actor.now)) (known (g.W.Actor.own c.initiate.new.actor) (g.W.Actor.house c.initiate.new.actor)) (known (g.W.Actor.own c.compact_asked.new.actor) (g.W.Actor.house c.compact_asked.new.actor))
    (initiates-tested g.D.Shelf.told g.D.Shelf.faults g.W.Actor.between g.met.W.Actor.rows g.W.Actor.meanwhile
    (known (g.W.Actor.own c.args.actor.now) (g.W.Actor.house c.args.actor.now)) (known (g.W.Actor.own c.initiate.new.actor) (g.W.Actor.house c.initiate.new.actor)) c.in-Ok.asked c.in-Ok.ensures.initiates)
    c.compact_asked.ensures.adds

pub returns-in-Err-clause-adds : goal.returns-in-Err-clause-adds
returns-in-Err-clause-adds g c =
    initiates-less g.D.Shelf.told g.D.Shelf.faults g.W.Actor.between g.met.W.Actor.rows g.W.Actor.meanwhile
    (known (g.W.Actor.own c.args.actor.now) (g.W.Actor.house c.args.actor.now)) (known (g.W.Actor.own c.initiate.new.actor) (g.W.Actor.house c.initiate.new.actor))
    c.in-Err.why c.in-Err.ensures.less
