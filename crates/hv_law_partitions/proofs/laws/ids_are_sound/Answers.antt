use Rattle.hv_law_partitions.proofs.IdLemmas.{ids-sound}
use Rattle.hv_law_partitions.proofs.laws.ids_are_sound.Goals as goal

pub returns : goal.returns
returns c = record { law = ids-sound }
