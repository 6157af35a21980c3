use Rattle.hv_values_text.proofs.Without.{has}
use Rattle.hv_values_text.proofs.skims.other_over.Goals as goal

pub returns-clause-part : goal.returns-clause-part
returns-clause-part c = has c.in_ok-found.ensures.part
