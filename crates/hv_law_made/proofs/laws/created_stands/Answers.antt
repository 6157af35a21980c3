use Rattle.hv_law_made.proofs.EndStands.{created-stands}
use Rattle.hv_law_made.proofs.laws.created_stands.Goals as goal

pub returns : goal.returns
returns c = record { law = created-stands }
