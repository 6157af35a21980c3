use Rattle.hv_law_visible.proofs.ListLemmas.{says-up-to}
use Rattle.hv_law_visible.proofs.laws.list_says_up_to.Goals as goal

pub returns : goal.returns
returns c = record { law = says-up-to }
