use Rattle.hv_law_made.proofs.PublishStands.{published-stands}
use Rattle.hv_law_made.proofs.laws.published_stands.Goals as goal

pub returns : goal.returns
returns c = record { law = published-stands }
