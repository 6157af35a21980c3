use Rattle.hv_law_jobs.proofs.SetLemmas.{thresholds-by-hand}
use Rattle.hv_law_jobs.proofs.laws.thresholds_by_hand.Goals as goal

pub returns : goal.returns
returns c = record { law = thresholds-by-hand }
