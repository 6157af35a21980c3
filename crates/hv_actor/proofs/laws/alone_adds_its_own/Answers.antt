use Rattle.hv_actor.proofs.Weaving.{went-alone, own-went-alone}
use Rattle.hv_actor.proofs.laws.alone_adds_its_own.Goals as goal

pub returns : goal.returns
returns c = record { trail = went-alone; places = own-went-alone }
