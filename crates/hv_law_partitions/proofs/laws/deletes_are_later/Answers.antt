use Rattle.hv_law_partitions.proofs.StoodLemmas.{deletes-later}
use Rattle.hv_law_partitions.proofs.laws.deletes_are_later.Goals as goal

pub returns : goal.returns
returns c = record { law = deletes-later }
