use Rattle.hv_law_published.proofs.RetiredLemmas.{loose-retired}
use Rattle.hv_law_published.proofs.laws.a_loose_directory_is_retired.Goals as goal

pub returns : goal.returns
returns g c = record { law = loose-retired }
