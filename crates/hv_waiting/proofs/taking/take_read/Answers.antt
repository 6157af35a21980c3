use Rattle.hv_session.specs.Taking.{asked_of}
use Rattle.hv_waiting.proofs.Ends.{said-replies, unsaid-lacks}
use Rattle.hv_waiting.proofs.taking.take_read.Goals as goal

pub returns-in_ok-said-in-Ok-clause-takes : goal.returns-in_ok-said-in-Ok-clause-takes
returns-in_ok-said-in-Ok-clause-takes g c =
    said-replies g.D.Shelf.told g.D.Shelf.faults g.W.Actor.between g.met.W.Actor.rows g.W.Actor.meanwhile (asked_of c.args.asking) c.args.tree
    (g.W.Actor.own c.args.actor.now) (g.W.Actor.own c.carry.new.actor) (g.W.Actor.house c.args.actor.now) (g.W.Actor.house c.carry.new.actor)
    c.in-Ok.found c.in_ok-said-in-Ok.field-0 c.requires.tree c.in_ok-said-in-Ok.ensures.said c.in-Ok.ensures.takes

pub returns-in_err-said-in-Ok-clause-halts : goal.returns-in_err-said-in-Ok-clause-halts
returns-in_err-said-in-Ok-clause-halts g c =
    unsaid-lacks g.D.Shelf.told g.D.Shelf.faults g.W.Actor.between g.met.W.Actor.rows g.W.Actor.meanwhile (asked_of c.args.asking) c.args.tree
    (g.W.Actor.own c.args.actor.now) (g.W.Actor.own c.carry.new.actor) (g.W.Actor.house c.args.actor.now) (g.W.Actor.house c.carry.new.actor)
    c.in-Ok.found c.in_err-said-in-Ok.ensures.unopened c.in-Ok.ensures.takes c.from_residual.result c.from_residual.ensures.1
