use Rattle.hv_law_whole.proofs.KeptLemmas.{partitions-are-kept}
use Rattle.hv_law_whole.proofs.laws.partitions_are_kept.Goals as goal

pub returns : goal.returns
returns c = record { law = partitions-are-kept }
