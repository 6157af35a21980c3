use Rattle.hv_law_once.proofs.Places.{items-once}
use Rattle.hv_law_once.proofs.laws.items_stand_once.Goals as goal

pub returns : goal.returns
returns c = record { law = items-once }
