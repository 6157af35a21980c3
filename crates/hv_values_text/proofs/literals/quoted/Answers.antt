use Rattle.hv_values_text.proofs.Known.{quoted_part}
use Rattle.hv_values_text.proofs.literals.quoted.Goals as goal

pub returns-clause-part : goal.returns-clause-part
returns-clause-part c = quoted_part c.in_ok-quoted.ensures.front
