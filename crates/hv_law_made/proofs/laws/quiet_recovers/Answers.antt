use Rattle.hv_law_made.proofs.QuietOpenings.{quiet-recovers}
use Rattle.hv_law_made.proofs.laws.quiet_recovers.Goals as goal

pub returns : goal.returns
returns c = record { law = quiet-recovers }
