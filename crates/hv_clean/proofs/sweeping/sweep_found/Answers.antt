use Rattle.hv_actor.specs.Acting.{known}
use Rattle.hv_clean.proofs.Moved.{sweeps-none}
use Rattle.hv_clean.proofs.sweeping.sweep_found.Goals as goal

pub returns-in-None-clause-sweeps : goal.returns-in-None-clause-sweeps
returns-in-None-clause-sweeps g c = sweeps-none g.D.Shelf.told g.D.Shelf.faults g.W.Actor.between g.met.W.Actor.rows g.W.Actor.meanwhile (known (g.W.Actor.own c.args.actor.now) (g.W.Actor.house c.args.actor.now)) c.args.swept.now c.requires.running
