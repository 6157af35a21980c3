use Rattle.hv_session.specs.hv_beginning.specs.hv_steps.specs.hv_table_reader.specs.hv_acts.specs.Told.{trail_in}
use Rattle.hv_session.specs.hv_beginning.specs.hv_steps.specs.hv_table_reader.specs.hv_acts.specs.Starting.{adds_started}
use Rattle.hv_session.specs.hv_beginning.specs.hv_steps.proofs.Joining.{front-went, opened-lasts}
use Rattle.hv_waiting.proofs.Turns.{start-left, start-ends, starts-so-far}
use Rattle.hv_waiting.proofs.opening.start_or_wait.Goals as goal

pub hold-requires-clause-few : goal.hold-requires-clause-few
hold-requires-clause-few g c = g.met.W.Actor.one

pub returns-clause-was : goal.returns-clause-was
returns-clause-was g c =
    opened-lasts c.args.txn.0 (trail_in (g.W.Actor.house c.args.actor.now)) (trail_in (g.W.Actor.house c.hold.new.self))
    (front-went g.W.Actor.between (adds_started c.args.txn c.hold.result) (g.W.Actor.own c.args.actor.now) (g.W.Actor.own c.hold.new.self)
    (trail_in (g.W.Actor.house c.args.actor.now)) (trail_in (g.W.Actor.house c.hold.new.self)) c.hold.ensures.went) c.requires.was

pub returns-clause-left : goal.returns-clause-left
returns-clause-left g c =
    start-left g.D.Shelf.told g.D.Shelf.faults g.W.Actor.between g.met.W.Actor.rows g.W.Actor.meanwhile g.met.W.Actor.goes_on
    (g.W.Actor.house c.args.actor.now) (g.W.Actor.house c.hold.new.self) c.args.txn c.requires.running c.hold.result c.hold.ensures.held

pub returns-clause-ends : goal.returns-clause-ends
returns-clause-ends g c =
    start-ends g.D.Shelf.told g.D.Shelf.faults g.W.Actor.between g.met.W.Actor.rows g.W.Actor.meanwhile g.met.W.Actor.goes_on
    (g.W.Actor.house c.args.actor.now) (g.W.Actor.house c.hold.new.self) c.args.txn c.hold.result c.hold.ensures.held

pub returns-clause-starts : goal.returns-clause-starts
returns-clause-starts g c = λ first own asking said was.
    starts-so-far g.D.Shelf.told g.D.Shelf.faults g.W.Actor.between g.met.W.Actor.rows g.W.Actor.meanwhile g.met.W.Actor.goes_on
    first (g.W.Actor.house c.args.actor.now) (g.W.Actor.house c.hold.new.self) own (g.W.Actor.own c.args.actor.now) (g.W.Actor.own c.hold.new.self)
    asking said c.args.txn c.requires.running c.hold.result c.hold.ensures.went c.hold.ensures.held was
