use Rattle.hv_steps.proofs.Aborts.{lacks-goes}
use Rattle.hv_steps.proofs.refusing.lack_memory.Goals as goal

pub returns-in-Err-clause-goes : goal.returns-in-Err-clause-goes
returns-in-Err-clause-goes g c = λ low.
    lacks-goes g.D.Shelf.told g.D.Shelf.faults g.W.Actor.between g.met.W.Actor.rows g.W.Actor.meanwhile low c.args.txn.0 (g.W.Actor.own c.args.actor.now)
    (g.W.Actor.house c.args.actor.now) _ c.requires.running
