use Rattle.hv_route.proofs.RisingLemmas.{all-touches-rise}
use Rattle.hv_route.proofs.laws.touches_rise.Goals as goal

pub returns : goal.returns
returns c = record { law = all-touches-rise }
