use Rattle.hv_house.proofs.Beginning.{opened-waits, waits-can-start}
use Rattle.hv_house.proofs.laws.who_waits_can_start.Goals as goal

pub returns : goal.returns
returns c = record { waits = opened-waits; can = waits-can-start }
