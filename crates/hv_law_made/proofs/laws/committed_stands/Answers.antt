use Rattle.hv_law_made.proofs.CommitStands.{committed-stands}
use Rattle.hv_law_made.proofs.laws.committed_stands.Goals as goal

pub returns : goal.returns
returns c = record { law = committed-stands }
