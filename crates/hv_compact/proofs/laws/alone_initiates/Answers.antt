use Rattle.hv_compact.proofs.Alones.{initiates-alone}
use Rattle.hv_compact.proofs.laws.alone_initiates.Goals as goal

pub returns : goal.returns
returns g c = record { law = λ none. initiates-alone g.D.Shelf.told g.D.Shelf.faults g.W.Actor.between g.W.Actor.meanwhile none }
