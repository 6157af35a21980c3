use Rattle.hv_law_read.proofs.NeedLemmas.{needs-last}
use Rattle.hv_law_read.proofs.laws.needs_last.Goals as goal

pub returns : goal.returns
returns c = record { law = needs-last }
