use Rattle.hv_session.proofs.AloneEnds.{sees-alone}
use Rattle.hv_session.proofs.alone.alone_sees.Goals as goal

pub returns : goal.returns
returns g c = record { law = λ none. sees-alone g.D.Shelf.faults g.W.Actor.between none g.D.Shelf.told }
