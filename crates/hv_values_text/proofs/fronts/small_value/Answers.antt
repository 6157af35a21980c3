use Rattle.hv_values_text.proofs.Quotes.{small_passes, large_fails}
use Rattle.hv_values_text.proofs.fronts.small_value.Goals as goal

pub returns-in-Some-clause-known : goal.returns-in-Some-clause-known
returns-in-Some-clause-known c = small_passes _ _ c.in-Some.ensures.0

pub returns-in-None-clause-known : goal.returns-in-None-clause-known
returns-in-None-clause-known c = λ other. large_fails _ _ c.in-None.ensures
