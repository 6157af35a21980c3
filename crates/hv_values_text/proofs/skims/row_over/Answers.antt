use Rattle.hv_values_text.proofs.Without.{row_there}
use Rattle.hv_values_text.proofs.skims.row_over.Goals as goal

pub returns-clause-part : goal.returns-clause-part
returns-clause-part c = row_there c.in_ok-expect.ensures.front c.in_ok-values_over.ensures.part c.in_ok-expect-2.ensures.front
