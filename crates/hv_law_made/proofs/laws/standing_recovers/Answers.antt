use Rattle.hv_law_made.proofs.BareJobs.{standing-recovers}
use Rattle.hv_law_made.proofs.laws.standing_recovers.Goals as goal

pub returns : goal.returns
returns c = record { law = standing-recovers }
