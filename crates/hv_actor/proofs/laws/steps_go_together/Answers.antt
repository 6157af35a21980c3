use Rattle.hv_actor.proofs.Weaving.{went-more}
use Rattle.hv_actor.proofs.laws.steps_go_together.Goals as goal

pub returns : goal.returns
returns g c = record { law = went-more g.W.Actor.between g.met.W.Actor.rows }
