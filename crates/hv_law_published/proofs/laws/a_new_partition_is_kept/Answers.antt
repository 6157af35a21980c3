use Rattle.hv_law_published.proofs.EndLemmas.{new-kept}
use Rattle.hv_law_published.proofs.laws.a_new_partition_is_kept.Goals as goal

pub returns : goal.returns
returns g c = record { law = new-kept }
