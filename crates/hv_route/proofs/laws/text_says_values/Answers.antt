use Rattle.hv_route.proofs.BackLemmas.{text-says}
use Rattle.hv_route.proofs.laws.text_says_values.Goals as goal

pub returns : goal.returns
returns c = record { law = text-says }
