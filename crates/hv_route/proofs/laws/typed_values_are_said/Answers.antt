use Rattle.hv_route.proofs.HeldLemmas.{typed-are-said}
use Rattle.hv_route.proofs.laws.typed_values_are_said.Goals as goal

pub returns : goal.returns
returns c = record { law = typed-are-said }
