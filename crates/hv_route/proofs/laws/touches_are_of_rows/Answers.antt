use Rattle.hv_route.proofs.StandingLemmas.{touches-are-of-rows}
use Rattle.hv_route.proofs.laws.touches_are_of_rows.Goals as goal

pub returns : goal.returns
returns c = record { law = touches-are-of-rows }
