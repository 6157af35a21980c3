use Rattle.std.proofs.Common.{subst}
use Rattle.hv_session.specs.Doing.{CanFinishTaken}
use Rattle.tests_house.proofs.seeing.seen_taken.Goals as goal

pub seen_held-requires-clause-can : goal.seen_held-requires-clause-can
seen_held-requires-clause-can g c = subst (CanFinishTaken g.D.Shelf.told (g.W.Actor.house c.args.actor.now)) c.in-Kept.is c.requires.can
