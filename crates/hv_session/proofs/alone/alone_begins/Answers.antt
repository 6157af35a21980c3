use Rattle.hv_session.proofs.AloneBegins.{begins-alone, halts-alone}
use Rattle.hv_session.proofs.alone.alone_begins.Goals as goal

pub returns : goal.returns
returns g c = record {
  begins = λ acts. begins-alone g.D.Shelf.told g.D.Shelf.faults g.W.Actor.between acts.nothing;
  halts = λ acts. halts-alone g.D.Shelf.told g.D.Shelf.faults g.W.Actor.between acts.nothing g.W.Actor.meanwhile acts.alone _;
}
