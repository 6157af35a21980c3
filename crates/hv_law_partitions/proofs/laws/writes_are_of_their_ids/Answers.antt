use Rattle.hv_law_partitions.proofs.StateLemmas.{writes-of-ids}
use Rattle.hv_law_partitions.proofs.laws.writes_are_of_their_ids.Goals as goal

pub returns : goal.returns
returns c = record { law = writes-of-ids }
