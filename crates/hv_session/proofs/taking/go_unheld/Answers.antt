use Rattle.std.proofs.Common.{None}
use Rattle.hv_session.proofs.Takings.{unheld-holds}
use Rattle.hv_session.proofs.AloneHolds.{ends-goes}
use Rattle.hv_session.proofs.taking.go_unheld.Goals as goal

pub returns-clause-goes : goal.returns-clause-goes
returns-clause-goes g c =
    unheld-holds g.D.Shelf.told g.D.Shelf.faults g.W.Actor.between g.met.W.Actor.rows g.W.Actor.meanwhile
    (g.W.Actor.own c.args.actor.now) (g.W.Actor.own c.go_to_end-found.new.actor) (g.W.Actor.house c.args.actor.now) (g.W.Actor.house c.go_to_end-found.new.actor)
    c.args.way c.args.tree c.go_to_end-found.result c.taken.result c.taken.ensures.taken c.go_to_end-found.ensures.goes c.go_to_end-found.ensures.answered

pub returns-clause-alone : goal.returns-clause-alone
returns-clause-alone g c = λ acts on.
    ends-goes g.D.Shelf.told g.D.Shelf.faults g.W.Actor.between g.W.Actor.meanwhile acts
    (g.W.Actor.own c.args.actor.now) (g.W.Actor.own c.go_to_end-found.new.actor) (g.W.Actor.house c.args.actor.now) (g.W.Actor.house c.go_to_end-found.new.actor)
    c.requires.was.0 c.args.way c.args.tree None c.requires.was.1 c.requires.running (g.met.W.Actor.kept c.go_to_end-found.new.actor c.go_to_end-found.ensures.keeps)
    c.go_to_end-found.result c.taken.result c.taken.ensures.taken (returns-clause-goes g c) (c.go_to_end-found.ensures.alone acts on)
