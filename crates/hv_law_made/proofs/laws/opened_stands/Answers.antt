use Rattle.hv_law_made.proofs.OpenStands.{opened-stands}
use Rattle.hv_law_made.proofs.laws.opened_stands.Goals as goal

pub returns : goal.returns
returns c = record { law = opened-stands }
