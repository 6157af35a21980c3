use Rattle.hv_law_visible.proofs.ListLemmas.{says-fates}
use Rattle.hv_law_visible.proofs.laws.list_says_fates.Goals as goal

pub returns : goal.returns
returns c = record { law = says-fates }
