use Rattle.hv_values_text.proofs.Known.{null_part}
use Rattle.hv_values_text.proofs.literals.null.Goals as goal

pub returns-clause-part : goal.returns-clause-part
returns-clause-part c = null_part c.in_ok-expect_word.ensures.front
