use Rattle.hv_law_made.proofs.StepStands.{asked-stands}
use Rattle.hv_law_made.proofs.laws.asked_stands.Goals as goal

pub returns : goal.returns
returns c = record { law = asked-stands }
