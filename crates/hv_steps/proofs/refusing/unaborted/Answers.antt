use Rattle.std.proofs.Common.{subst}
use Rattle.hv_steps.specs.Leaving.{IsLeftFor, EndsAct}
use Rattle.hv_steps.specs.Phases.{NoCause}
use Rattle.hv_steps.proofs.Joining.{adds-none}
use Rattle.hv_steps.proofs.Aborts.{failed-goes}
use Rattle.hv_steps.proofs.refusing.unaborted.Goals as goal

pub tell_gone-requires-clause-running : goal.tell_gone-requires-clause-running
tell_gone-requires-clause-running g c =
    (subst (IsLeftFor g.D.Shelf.told g.W.Actor.meanwhile c.args.txn.0 (g.W.Actor.house c.args.actor.now)) c.in-Ended.is c.requires.left).0

pub tell_gone-requires-clause-gone : goal.tell_gone-requires-clause-gone
tell_gone-requires-clause-gone g c =
    (subst (IsLeftFor g.D.Shelf.told g.W.Actor.meanwhile c.args.txn.0 (g.W.Actor.house c.args.actor.now)) c.in-Ended.is c.requires.left).1

pub returns-in-House-clause-goes : goal.returns-in-House-clause-goes
returns-in-House-clause-goes g c = λ low.
    let own = g.W.Actor.own c.args.actor.now in
    let house = g.W.Actor.house c.args.actor.now in
    failed-goes g.D.Shelf.told g.D.Shelf.faults g.W.Actor.between g.met.W.Actor.rows g.W.Actor.meanwhile low c.args.txn.0 own own house house NoCause
    c.in-House.fault (adds-none g.D.Shelf.faults g.W.Actor.between g.met.W.Actor.rows own house)
    (subst (IsLeftFor g.D.Shelf.told g.W.Actor.meanwhile c.args.txn.0 house) c.in-House.is c.requires.left) (subst EndsAct c.in-House.is c.requires.ends)
