use Rattle.hv_law_once.proofs.Places.{items-together}
use Rattle.hv_law_once.proofs.laws.items_go_together.Goals as goal

pub returns : goal.returns
returns c = record { law = items-together }
