use Rattle.hv_values_text.proofs.Known.{number_part}
use Rattle.hv_values_text.proofs.literals.number.Goals as goal

pub returns-clause-part : goal.returns-clause-part
returns-clause-part c = number_part c.in_ok-number.ensures.front
