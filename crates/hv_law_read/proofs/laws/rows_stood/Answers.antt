use Rattle.hv_law_read.proofs.RowLemmas.{rows-stood}
use Rattle.hv_law_read.proofs.laws.rows_stood.Goals as goal

pub returns : goal.returns
returns c = record { law = rows-stood }
