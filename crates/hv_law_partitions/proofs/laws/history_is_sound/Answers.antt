use Rattle.hv_law_partitions.proofs.StoodLemmas.{history-sound}
use Rattle.hv_law_partitions.proofs.laws.history_is_sound.Goals as goal

pub returns : goal.returns
returns c = record { law = history-sound }
