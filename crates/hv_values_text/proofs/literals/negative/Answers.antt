use Rattle.hv_values_text.proofs.Known.{negative_part}
use Rattle.hv_values_text.proofs.literals.negative.Goals as goal

pub returns-clause-part : goal.returns-clause-part
returns-clause-part c = negative_part c.in_ok-expect_single.ensures.front c.in_ok-literal.ensures.front c.in_ok-operand.ensures
