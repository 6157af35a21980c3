use Rattle.hv_law_partitions.proofs.SinceLemmas.{list-shows-then}
use Rattle.hv_law_partitions.proofs.laws.list_shows_then.Goals as goal

pub returns : goal.returns
returns c = record { law = list-shows-then }
