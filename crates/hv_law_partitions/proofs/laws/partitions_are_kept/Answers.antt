use Rattle.hv_law_partitions.proofs.StateLemmas.{partitions-kept}
use Rattle.hv_law_partitions.proofs.laws.partitions_are_kept.Goals as goal

pub returns : goal.returns
returns c = record { law = partitions-kept }
