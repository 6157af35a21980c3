use Rattle.hv_law_made.proofs.RecoverStands.{fronts-recover}
use Rattle.hv_law_made.proofs.laws.fronts_recover.Goals as goal

pub returns : goal.returns
returns c = record { law = fronts-recover }
