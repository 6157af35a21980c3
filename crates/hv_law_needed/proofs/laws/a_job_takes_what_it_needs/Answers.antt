use Rattle.hv_law_needed.proofs.NeededLemmas.{job-needs}
use Rattle.hv_law_needed.proofs.laws.a_job_takes_what_it_needs.Goals as goal

pub returns : goal.returns
returns g c = record { law = job-needs }
