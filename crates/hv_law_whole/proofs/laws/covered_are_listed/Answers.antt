use Rattle.hv_law_whole.proofs.CoveredLemmas.{covered-are-listed}
use Rattle.hv_law_whole.proofs.laws.covered_are_listed.Goals as goal

pub returns : goal.returns
returns c = record { law = covered-are-listed }
