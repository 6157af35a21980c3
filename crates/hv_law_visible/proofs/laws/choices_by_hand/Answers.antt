use Rattle.hv_law_visible.proofs.WorkedLemmas.{choices-by-hand, rows-by-hand}
use Rattle.hv_law_visible.proofs.laws.choices_by_hand.Goals as goal

pub returns : goal.returns
returns c = record { choices = choices-by-hand; rows = rows-by-hand }
