use Rattle.hv_law_made.proofs.NewNames.{published-names-are-new}
use Rattle.hv_law_made.proofs.laws.published_names_are_new.Goals as goal

pub returns : goal.returns
returns c = record { law = published-names-are-new }
