use Rattle.hv_law_made.proofs.EndStands.{dropped-stands}
use Rattle.hv_law_made.proofs.laws.dropped_stands.Goals as goal

pub returns : goal.returns
returns c = record { law = dropped-stands }
