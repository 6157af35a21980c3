use Rattle.hv_session.proofs.Lastings.{later-finishes}
use Rattle.hv_session.proofs.laws.what_is_held_can_be_finished.Goals as goal

pub returns-clause-others : goal.returns-clause-others
returns-clause-others g c = λ before now paused later can. later-finishes g.D.Shelf.told g.D.Shelf.faults before now later paused can

pub returns-clause-acts : goal.returns-clause-acts
returns-clause-acts g c = λ by own own' before now added paused adds can. later-finishes g.D.Shelf.told g.D.Shelf.faults before now adds.later paused can
