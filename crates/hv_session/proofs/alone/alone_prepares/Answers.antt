use Rattle.hv_session.proofs.AlonePrepares.{prepares-alone}
use Rattle.hv_session.proofs.alone.alone_prepares.Goals as goal

pub returns : goal.returns
returns g c = record { law = prepares-alone g.D.Shelf.told g.D.Shelf.faults g.W.Actor.between }
