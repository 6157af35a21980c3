use Rattle.hv_compact.proofs.Alones.{compacts-alone}
use Rattle.hv_compact.proofs.laws.alone_compacts.Goals as goal

pub returns : goal.returns
returns g c = record { law = λ none. compacts-alone g.D.Shelf.told g.D.Shelf.faults g.W.Actor.between g.W.Actor.meanwhile none }
