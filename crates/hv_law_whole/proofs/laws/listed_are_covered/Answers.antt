use Rattle.hv_law_whole.proofs.ListedLemmas.{listed-are-covered}
use Rattle.hv_law_whole.proofs.laws.listed_are_covered.Goals as goal

pub returns : goal.returns
returns c = record { law = listed-are-covered }
