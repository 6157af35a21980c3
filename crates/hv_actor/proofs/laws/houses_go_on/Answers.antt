use Rattle.hv_actor.specs.Rows.{later_itself}
use Rattle.hv_actor.proofs.Weaving.{later-further}
use Rattle.hv_actor.proofs.laws.houses_go_on.Goals as goal

pub returns : goal.returns
returns g c = record { itself = later_itself; further = later-further }
