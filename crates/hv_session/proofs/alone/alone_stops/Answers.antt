use Rattle.hv_session.proofs.AloneStops.{stops-alone, opens-alone}
use Rattle.hv_session.proofs.alone.alone_stops.Goals as goal

pub returns : goal.returns
returns g c = record {
  stopped = λ none alone. stops-alone g.D.Shelf.told g.D.Shelf.faults g.W.Actor.between none g.W.Actor.meanwhile alone;
  opens = λ none alone. opens-alone g.D.Shelf.told g.D.Shelf.faults g.W.Actor.between none g.W.Actor.meanwhile alone;
}
