use Rattle.hv_session.specs.hv_beginning.proofs.Openings.{opened-waits}
use Rattle.tests_seats.proofs.statements.open_one.Goals as goal

pub hold-requires-clause-few : goal.hold-requires-clause-few
hold-requires-clause-few g c = g.met.W.Actor.one

pub returns-clause-waits : goal.returns-clause-waits
returns-clause-waits g c =
    opened-waits g.D.Shelf.told g.D.Shelf.faults g.W.Actor.between g.met.W.Actor.rows g.W.Actor.meanwhile g.met.W.Actor.goes_on
    (g.W.Actor.house c.args.actor.now) (g.W.Actor.house c.hold.new.self)
    (record { session = c.args.session; number = 0; text = c.args.text }) c.args.tree c.requires.runs c.hold.result c.hold.ensures.held
