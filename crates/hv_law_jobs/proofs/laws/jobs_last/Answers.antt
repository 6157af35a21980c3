use Rattle.hv_law_jobs.proofs.LastLemmas.{jobs-last}
use Rattle.hv_law_jobs.proofs.laws.jobs_last.Goals as goal

pub returns : goal.returns
returns c = record { law = jobs-last }
