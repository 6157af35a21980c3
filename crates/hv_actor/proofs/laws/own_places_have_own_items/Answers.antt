use Rattle.hv_actor.proofs.Weaving.{own-rises, own-items}
use Rattle.hv_actor.proofs.laws.own_places_have_own_items.Goals as goal

pub returns : goal.returns
returns g c = record { rise = own-rises g.W.Actor.between; items = own-items g.W.Actor.between }
