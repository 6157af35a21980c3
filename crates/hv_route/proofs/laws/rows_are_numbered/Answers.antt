use Rattle.hv_route.proofs.NumberedLemmas.{rows-are-numbered}
use Rattle.hv_route.proofs.laws.rows_are_numbered.Goals as goal

pub returns : goal.returns
returns c = record { law = rows-are-numbered }
