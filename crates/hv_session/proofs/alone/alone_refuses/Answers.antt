use Rattle.hv_session.proofs.AloneEnds.{refuses-alone, refuses-waiting}
use Rattle.hv_session.proofs.alone.alone_refuses.Goals as goal

pub returns : goal.returns
returns g c = record {
  running = λ none. refuses-alone g.D.Shelf.faults g.W.Actor.between none g.D.Shelf.told;
  waiting = λ none. refuses-waiting g.D.Shelf.faults g.W.Actor.between none g.D.Shelf.told;
}
