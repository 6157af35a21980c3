use Rattle.hv_law_partitions.proofs.ListLemmas.{list-of-fates}
use Rattle.hv_law_partitions.proofs.laws.list_is_of_fates.Goals as goal

pub returns : goal.returns
returns c = record { law = list-of-fates }
