use Rattle.hv_values_text.proofs.Without.{number_there}
use Rattle.hv_values_text.proofs.skims.number_over.Goals as goal

pub returns-clause-part : goal.returns-clause-part
returns-clause-part c = number_there c.in_ok-found.found c.in_ok-found.ensures.front
