use Rattle.hv_law_jobs.proofs.FittingLemmas.{jobs-fit-by-hand}
use Rattle.hv_law_jobs.proofs.laws.jobs_fit_by_hand.Goals as goal

pub returns : goal.returns
returns c = record { law = jobs-fit-by-hand }
