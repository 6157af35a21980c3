use Rattle.hv_waiting.proofs.Turns.{started-goes}
use Rattle.hv_waiting.proofs.opening.start_in_turn.Goals as goal

pub returns-in-Ok-clause-goes : goal.returns-in-Ok-clause-goes
returns-in-Ok-clause-goes g c = λ first own asking said was.
    started-goes g.D.Shelf.told g.D.Shelf.faults g.W.Actor.between g.met.W.Actor.rows g.W.Actor.meanwhile g.met.W.Actor.goes_on
    first (g.W.Actor.house c.wait_to_start.new.actor) own (g.W.Actor.own c.wait_to_start.new.actor) asking said c.args.txn c.in-Ok.found c.started_as.result c.started_as.ensures.opened
    (c.in-Ok.ensures.starts first own asking said was)

pub returns-in-Err-clause-goes : goal.returns-in-Err-clause-goes
returns-in-Err-clause-goes g c = λ first own asking said was.
    c.end_unstarted.ensures.goes first own asking said (c.in-Err.ensures.starts first own asking said was)
