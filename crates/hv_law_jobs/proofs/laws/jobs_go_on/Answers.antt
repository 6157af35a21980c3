use Rattle.hv_law_jobs.proofs.GoLemmas.{jobs-go-on}
use Rattle.hv_law_jobs.proofs.laws.jobs_go_on.Goals as goal

pub returns : goal.returns
returns c = record { law = jobs-go-on }
