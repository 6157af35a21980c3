use Rattle.hv_session.proofs.AloneStops.{goes-alone}
use Rattle.hv_session.proofs.alone.alone_goes.Goals as goal

pub returns : goal.returns
returns g c = record { law = λ acts. goes-alone g.D.Shelf.told g.D.Shelf.faults g.W.Actor.between acts.nothing g.W.Actor.meanwhile acts.alone _ }
