use Rattle.hv_law_made.proofs.OpeningEnds.{opening-stands}
use Rattle.hv_law_made.proofs.laws.opening_stands.Goals as goal

pub returns : goal.returns
returns c = record { law = opening-stands }
