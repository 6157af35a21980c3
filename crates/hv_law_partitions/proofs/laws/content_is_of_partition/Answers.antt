use Rattle.hv_law_partitions.proofs.ContentLemmas.{content-of-partition}
use Rattle.hv_law_partitions.proofs.OrderLemmas.{content-in-order}
use Rattle.hv_law_partitions.proofs.laws.content_is_of_partition.Goals as goal

pub returns : goal.returns
returns c = record { law = content-of-partition; ordered = content-in-order }
