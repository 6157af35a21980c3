use Rattle.hv_law_partitions.proofs.PlaceLemmas.{snapshots-of-places}
use Rattle.hv_law_partitions.proofs.laws.snapshots_are_of_places.Goals as goal

pub returns : goal.returns
returns c = record { law = snapshots-of-places }
