use Rattle.hv_law_published.proofs.GatherLemmas.{gathers-its-records}
use Rattle.hv_law_published.proofs.laws.a_job_gathers_its_records.Goals as goal

pub returns : goal.returns
returns g c = record { law = gathers-its-records }
