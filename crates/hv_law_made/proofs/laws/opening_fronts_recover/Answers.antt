use Rattle.hv_law_made.proofs.OpeningStops.{opening-fronts-recover}
use Rattle.hv_law_made.proofs.laws.opening_fronts_recover.Goals as goal

pub returns : goal.returns
returns c = record { law = opening-fronts-recover }
