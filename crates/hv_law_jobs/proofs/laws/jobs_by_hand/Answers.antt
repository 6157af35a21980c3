use Rattle.hv_law_jobs.proofs.WorkedLemmas.{jobs-by-hand}
use Rattle.hv_law_jobs.proofs.laws.jobs_by_hand.Goals as goal

pub returns : goal.returns
returns c = record { law = jobs-by-hand }
