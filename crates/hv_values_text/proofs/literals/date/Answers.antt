use Rattle.hv_values_text.proofs.Known.{date_part}
use Rattle.hv_values_text.proofs.literals.date.Goals as goal

pub returns-clause-part : goal.returns-clause-part
returns-clause-part c = date_part c.in_ok-expect_word.ensures.front c.in_ok-quoted.ensures.front
