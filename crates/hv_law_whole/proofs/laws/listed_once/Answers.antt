use Rattle.hv_law_whole.proofs.DistinctLemmas.{listed-once}
use Rattle.hv_law_whole.proofs.laws.listed_once.Goals as goal

pub returns : goal.returns
returns c = record { law = listed-once }
