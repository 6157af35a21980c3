use Rattle.hv_law_published.proofs.JobLemmas.{removal-keeps}
use Rattle.hv_law_published.proofs.laws.a_removal_keeps.Goals as goal

pub returns : goal.returns
returns g c = record { law = removal-keeps }
