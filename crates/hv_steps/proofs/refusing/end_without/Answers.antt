use Rattle.std.proofs.Common.{subst}
use Rattle.hv_steps.specs.Leaving.{IsLeftFor, EndsAct}
use Rattle.hv_steps.proofs.refusing.end_without.Goals as goal

pub tell_gone-requires-clause-running : goal.tell_gone-requires-clause-running
tell_gone-requires-clause-running g c =
    (subst (IsLeftFor g.D.Shelf.told g.W.Actor.meanwhile c.args.txn.0 (g.W.Actor.house c.args.actor.now)) c.in-Ended.is c.requires.left).0

pub tell_gone-requires-clause-gone : goal.tell_gone-requires-clause-gone
tell_gone-requires-clause-gone g c =
    (subst (IsLeftFor g.D.Shelf.told g.W.Actor.meanwhile c.args.txn.0 (g.W.Actor.house c.args.actor.now)) c.in-Ended.is c.requires.left).1

pub end_failed-requires-clause-left : goal.end_failed-requires-clause-left
end_failed-requires-clause-left g c =
    subst (IsLeftFor g.D.Shelf.told g.W.Actor.meanwhile c.args.txn.0 (g.W.Actor.house c.args.actor.now)) c.in-House.is c.requires.left

pub end_failed-requires-clause-ends : goal.end_failed-requires-clause-ends
end_failed-requires-clause-ends g c = subst EndsAct c.in-House.is c.requires.ends
