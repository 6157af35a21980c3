use Rattle.hv_law_read.proofs.TakenLemmas.{taken-is-needed}
use Rattle.hv_law_read.proofs.laws.taken_is_needed.Goals as goal

pub returns : goal.returns
returns c = record { law = taken-is-needed }
