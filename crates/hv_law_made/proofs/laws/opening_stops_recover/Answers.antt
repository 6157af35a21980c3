use Rattle.hv_law_made.proofs.OpeningStops.{opening-stops-recover}
use Rattle.hv_law_made.proofs.laws.opening_stops_recover.Goals as goal

pub returns : goal.returns
returns c = record { law = opening-stops-recover }
