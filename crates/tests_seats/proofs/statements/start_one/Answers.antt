use Rattle.tests_seats.proofs.Starts.{started-way}
use Rattle.tests_seats.proofs.statements.start_one.Goals as goal

pub hold-requires-clause-few : goal.hold-requires-clause-few
hold-requires-clause-few g c = g.met.W.Actor.one

pub returns-clause-starts : goal.returns-clause-starts
returns-clause-starts g c = λ asking said was.
    started-way g.D.Shelf.told g.D.Shelf.faults g.W.Actor.meanwhile g.met.W.Actor.goes_on
    (g.W.Actor.house c.args.actor.now) (g.W.Actor.house c.hold.new.self) asking said c.args.txn c.hold.result c.hold.ensures.held was
