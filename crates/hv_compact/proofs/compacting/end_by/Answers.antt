use Rattle.std.proofs.Common.{subst}
use Rattle.hv_actor.specs.Acting.{among, known}
use Rattle.hv_compact.specs.Stopping.{StopsSo}
use Rattle.hv_compact.proofs.Adds.{adds-none}
use Rattle.hv_compact.proofs.Ends.{less-now}
use Rattle.hv_compact.proofs.Stops.{may-both}
use Rattle.hv_compact.proofs.compacting.end_by.Goals as goal

pub give_up-requires-clause-running : goal.give_up-requires-clause-running
give_up-requires-clause-running g c =
    (subst (StopsSo (among g.D.Shelf.told g.D.Shelf.faults g.W.Actor.between g.W.Actor.meanwhile) c.args.job (g.W.Actor.house c.args.actor.now)) c.in-GiveUp.is c.requires.stops).running

pub give_up-requires-clause-can : goal.give_up-requires-clause-can
give_up-requires-clause-can g c =
    may-both (g.W.Actor.house c.args.actor.now) c.args.job c.in-GiveUp.cause c.twice.result c.twice.ensures.causes
    (subst (StopsSo (among g.D.Shelf.told g.D.Shelf.faults g.W.Actor.between g.W.Actor.meanwhile) c.args.job (g.W.Actor.house c.args.actor.now)) c.in-GiveUp.is c.requires.stops)

pub returns-in-Run-clause-less : goal.returns-in-Run-clause-less
returns-in-Run-clause-less g c =
    let a = (known (g.W.Actor.own c.args.actor.now) (g.W.Actor.house c.args.actor.now)) in
    less-now g.D.Shelf.told g.D.Shelf.faults g.W.Actor.between g.W.Actor.meanwhile g.met.W.Actor.rows c.args.job a a c.in-Run.fault (adds-none g.D.Shelf.faults g.W.Actor.between g.met.W.Actor.rows a)
    (subst (StopsSo (among g.D.Shelf.told g.D.Shelf.faults g.W.Actor.between g.W.Actor.meanwhile) c.args.job (g.W.Actor.house c.args.actor.now)) c.in-Run.is c.requires.stops)
