use Rattle.hv_session.specs.Taking.{asked_of}
use Rattle.hv_session.proofs.Statements.{said-takes, unsaid-halts, said-alone, halted-alone, unsaid-alone}
use Rattle.hv_session.proofs.statement.take_read.Goals as goal

pub returns-in_ok-said-in-Ok-clause-takes : goal.returns-in_ok-said-in-Ok-clause-takes
returns-in_ok-said-in-Ok-clause-takes g c =
    said-takes g.D.Shelf.told g.D.Shelf.faults g.W.Actor.between g.met.W.Actor.rows g.W.Actor.meanwhile (asked_of c.args.asking) c.args.tree c.args.asking.hold
    (g.W.Actor.own c.args.actor.now) (g.W.Actor.own c.carry.new.actor) (g.W.Actor.house c.args.actor.now) (g.W.Actor.house c.carry.new.actor)
    c.in-Ok.found c.in_ok-said-in-Ok.field-0 c.requires.tree c.in_ok-said-in-Ok.ensures.said c.in-Ok.ensures.takes

pub returns-in_ok-said-in-Ok-clause-alone : goal.returns-in_ok-said-in-Ok-clause-alone
returns-in_ok-said-in-Ok-clause-alone g c = λ alone.
    said-alone g.D.Shelf.told g.D.Shelf.faults (asked_of c.args.asking) c.args.asking.hold (g.W.Actor.house c.args.actor.now).house (g.W.Actor.house c.carry.new.actor).house
    c.in-Ok.found c.in_ok-said-in-Ok.field-0 c.in_ok-said-in-Ok.ensures.said (c.in-Ok.ensures.alone alone)

pub returns-in_err-said-in-Ok-clause-halts : goal.returns-in_err-said-in-Ok-clause-halts
returns-in_err-said-in-Ok-clause-halts g c =
    unsaid-halts g.D.Shelf.told g.D.Shelf.faults g.W.Actor.between g.met.W.Actor.rows g.W.Actor.meanwhile (asked_of c.args.asking) c.args.tree c.args.asking.hold
    (g.W.Actor.own c.args.actor.now) (g.W.Actor.own c.carry.new.actor) (g.W.Actor.house c.args.actor.now) (g.W.Actor.house c.carry.new.actor)
    c.in-Ok.found c.in_err-said-in-Ok.ensures.unopened c.in-Ok.ensures.takes c.from_residual.result c.from_residual.ensures.1

pub returns-in_err-said-in-Ok-clause-alone : goal.returns-in_err-said-in-Ok-clause-alone
returns-in_err-said-in-Ok-clause-alone g c = λ alone.
    unsaid-alone g.D.Shelf.told g.D.Shelf.faults (asked_of c.args.asking) c.args.asking.hold (g.W.Actor.house c.args.actor.now).house (g.W.Actor.house c.carry.new.actor).house
    c.in-Ok.found c.in_err-said-in-Ok.ensures.unopened (c.in-Ok.ensures.alone alone) c.from_residual.result c.from_residual.ensures.1

pub returns-in-Err-clause-alone : goal.returns-in-Err-clause-alone
returns-in-Err-clause-alone g c = λ alone.
    halted-alone g.D.Shelf.told g.D.Shelf.faults (asked_of c.args.asking) c.args.asking.hold (g.W.Actor.house c.args.actor.now).house (g.W.Actor.house c.carry.new.actor).house
    c.in-Err.why (c.in-Err.ensures.alone alone)
