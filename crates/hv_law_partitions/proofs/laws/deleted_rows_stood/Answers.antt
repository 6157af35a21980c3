use Rattle.hv_law_partitions.proofs.StoodLemmas.{deleted-stood}
use Rattle.hv_law_partitions.proofs.laws.deleted_rows_stood.Goals as goal

pub returns : goal.returns
returns c = record { law = deleted-stood }
