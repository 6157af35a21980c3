use Rattle.hv_law_whole.proofs.FinalLemmas.{finals-are-said}
use Rattle.hv_law_whole.proofs.laws.finals_are_said.Goals as goal

pub returns : goal.returns
returns c = record { law = finals-are-said }
