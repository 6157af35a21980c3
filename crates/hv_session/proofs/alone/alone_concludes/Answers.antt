use Rattle.hv_session.proofs.AloneConcludes.{concludes-alone}
use Rattle.hv_session.proofs.alone.alone_concludes.Goals as goal

pub returns : goal.returns
returns g c = record { law = concludes-alone g.D.Shelf.told g.D.Shelf.faults g.W.Actor.between }
