use Rattle.hv_session.specs.hv_beginning.specs.hv_steps.specs.Going.{faults_in}
use Rattle.hv_waiting.proofs.Turns.{lacks-gained, lacks-halted}
use Rattle.hv_waiting.proofs.opening.end_unstarted.Goals as goal

pub returns-in-Ok-clause-goes : goal.returns-in-Ok-clause-goes
returns-in-Ok-clause-goes g c = λ first own asking said was.
    lacks-gained g.D.Shelf.told g.D.Shelf.faults g.W.Actor.between g.met.W.Actor.rows g.W.Actor.meanwhile g.met.W.Actor.goes_on
    first (g.W.Actor.house c.args.actor.now) (g.W.Actor.house c.end_without.new.actor) own (g.W.Actor.own c.args.actor.now) (g.W.Actor.own c.end_without.new.actor)
    asking said c.args.txn.0 c.in-Ok.done (c.in-Ok.ensures.goes (faults_in g.D.Shelf.faults (g.W.Actor.house c.args.actor.now))).done was

pub returns-in-Err-clause-goes : goal.returns-in-Err-clause-goes
returns-in-Err-clause-goes g c = λ first own asking said was.
    lacks-halted g.D.Shelf.told g.D.Shelf.faults g.W.Actor.between g.met.W.Actor.rows g.W.Actor.meanwhile g.met.W.Actor.goes_on
    first (g.W.Actor.house c.args.actor.now) (g.W.Actor.house c.end_without.new.actor) own (g.W.Actor.own c.args.actor.now) (g.W.Actor.own c.end_without.new.actor)
    asking said c.args.txn.0 c.in-Err.fault (c.in-Err.ensures.goes (faults_in g.D.Shelf.faults (g.W.Actor.house c.args.actor.now))).halted was
