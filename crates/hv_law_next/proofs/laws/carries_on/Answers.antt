use Rattle.hv_law_next.proofs.Going.{carries-on-by}
use Rattle.hv_law_next.proofs.laws.carries_on.Goals as goal

pub returns : goal.returns
returns c = record { law = carries-on-by }
