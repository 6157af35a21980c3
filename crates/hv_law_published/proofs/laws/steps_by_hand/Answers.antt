use Rattle.hv_law_published.proofs.WorkedLemmas.{rows-by-hand, steps-by-hand}
use Rattle.hv_law_published.proofs.laws.steps_by_hand.Goals as goal

pub returns : goal.returns
returns c = record { rows = rows-by-hand; steps = steps-by-hand }
