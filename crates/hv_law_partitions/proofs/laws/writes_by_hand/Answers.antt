use Rattle.hv_law_partitions.proofs.WorkedLemmas.{by-hand}
use Rattle.hv_law_partitions.proofs.laws.writes_by_hand.Goals as goal

pub returns : goal.returns
returns c = record { law = by-hand }
