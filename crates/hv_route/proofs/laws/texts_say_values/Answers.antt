use Rattle.hv_route.proofs.SayLemmas.{says}
use Rattle.hv_route.proofs.laws.texts_say_values.Goals as goal

pub returns : goal.returns
returns c = record { law = says }
