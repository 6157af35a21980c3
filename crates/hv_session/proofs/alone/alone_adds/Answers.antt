use Rattle.hv_session.proofs.AloneBooks.{adds-alone, open-is-whole, nothing-is-added}
use Rattle.hv_session.proofs.alone.alone_adds.Goals as goal

pub returns : goal.returns
returns g c = record {
  adds = λ none by own own' before now added v. adds-alone g.D.Shelf.faults g.W.Actor.between none own own' before now added v;
  whole = open-is-whole g.D.Shelf.told;
  nothing = nothing-is-added;
}
