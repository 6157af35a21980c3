use Rattle.hv_beginning.proofs.Openings.{at-once}
use Rattle.hv_beginning.proofs.opening.begin_at_once.Goals as goal

pub hold-requires-clause-few : goal.hold-requires-clause-few
hold-requires-clause-few g c = c.requires.both

pub returns-clause-begins : goal.returns-clause-begins
returns-clause-begins g c =
    at-once g.D.Shelf.told g.D.Shelf.faults g.W.Actor.between g.met.W.Actor.rows g.W.Actor.meanwhile g.met.W.Actor.goes_on
    (g.W.Actor.house c.args.actor.now) (g.W.Actor.house c.hold.new.self) (g.W.Actor.own c.args.actor.now) (g.W.Actor.own c.hold.new.self)
    (record { session = c.args.session; number = c.args.number; text = c.args.text }) c.args.tree c.requires.runs c.requires.running
    c.hold.result c.hold.ensures.went c.hold.ensures.held
