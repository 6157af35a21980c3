use Rattle.hv_law_made.proofs.GoingStands.{going-recovers}
use Rattle.hv_law_made.proofs.laws.going_recovers.Goals as goal

pub returns : goal.returns
returns c = record { law = going-recovers }
