use Rattle.hv_values_text.proofs.Without.{quoted_there}
use Rattle.hv_values_text.proofs.skims.quoted_over.Goals as goal

pub returns-clause-part : goal.returns-clause-part
returns-clause-part c = quoted_there c.in_ok-skim_quoted.ensures.front
