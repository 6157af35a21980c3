use Rattle.hv_session.specs.hv_beginning.proofs.Openings.{opened-waits}
use Rattle.hv_waiting.proofs.Turns.{opens-to-wait}
use Rattle.hv_waiting.proofs.opening.open_to_wait.Goals as goal

pub hold-requires-clause-few : goal.hold-requires-clause-few
hold-requires-clause-few g c = g.met.W.Actor.one

pub returns-clause-waits : goal.returns-clause-waits
returns-clause-waits g c =
    opened-waits g.D.Shelf.told g.D.Shelf.faults g.W.Actor.between g.met.W.Actor.rows g.W.Actor.meanwhile g.met.W.Actor.goes_on
    (g.W.Actor.house c.args.actor.now) (g.W.Actor.house c.hold.new.self)
    (record { session = c.args.session; number = c.args.number; text = c.args.text }) c.args.tree c.requires.runs c.hold.result c.hold.ensures.held

pub returns-clause-opens : goal.returns-clause-opens
returns-clause-opens g c =
    opens-to-wait g.D.Shelf.told g.D.Shelf.faults g.W.Actor.between g.met.W.Actor.rows g.W.Actor.meanwhile g.met.W.Actor.goes_on
    (g.W.Actor.house c.args.actor.now) (g.W.Actor.house c.hold.new.self) (g.W.Actor.own c.args.actor.now) (g.W.Actor.own c.hold.new.self)
    (record { session = c.args.session; number = c.args.number; text = c.args.text }) c.args.tree c.requires.runs c.requires.running
    c.hold.result c.hold.ensures.went c.hold.ensures.held
