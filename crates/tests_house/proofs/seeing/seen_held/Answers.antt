use Rattle.std.proofs.Common.{subst}
use Rattle.hv_session.specs.Doing.{CanGoOn}
use Rattle.tests_house.proofs.seeing.seen_held.Goals as goal

pub first_seen-found-requires-clause-was : goal.first_seen-found-requires-clause-was
first_seen-found-requires-clause-was g c =
    subst (CanGoOn g.D.Shelf.told (g.W.Actor.house c.args.actor.now) c.args.paused.way c.args.paused.tree) c.in-Started.is c.requires.can
