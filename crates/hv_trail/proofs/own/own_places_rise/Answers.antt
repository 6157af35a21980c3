use Rattle.hv_trail.proofs.OwnLaws.{own-rise, own-front, items-front}
use Rattle.hv_trail.proofs.own.own_places_rise.Goals as goal

pub returns : goal.returns
returns c = record { rise = own-rise; front = own-front; items = items-front }
