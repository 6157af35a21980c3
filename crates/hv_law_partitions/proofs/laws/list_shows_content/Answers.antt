use Rattle.hv_law_partitions.proofs.CommitLemmas.{list-shows}
use Rattle.hv_law_partitions.proofs.laws.list_shows_content.Goals as goal

pub returns : goal.returns
returns c = record { law = list-shows }
