use Rattle.hv_law_partitions.proofs.SinceLemmas.{places-since}
use Rattle.hv_law_partitions.proofs.laws.places_are_since.Goals as goal

pub returns : goal.returns
returns c = record { law = places-since }
