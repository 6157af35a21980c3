use Rattle.hv_law_published.proofs.JobLemmas.{job-keeps}
use Rattle.hv_law_published.proofs.laws.a_published_job_keeps.Goals as goal

pub returns : goal.returns
returns g c = record { law = job-keeps }
