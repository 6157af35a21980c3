use Rattle.hv_clean.proofs.AloneAll.{passes-alone}
use Rattle.hv_clean.proofs.laws.alone_passes.Goals as goal

pub returns : goal.returns
returns g c = record {
  law = λ none. passes-alone g.D.Shelf.told g.D.Shelf.faults g.W.Actor.between g.met.W.Actor.rows g.W.Actor.meanwhile none;
}
