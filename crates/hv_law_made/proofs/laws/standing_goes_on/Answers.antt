use Rattle.hv_law_made.proofs.EntryStands.{standing-goes-on}
use Rattle.hv_law_made.proofs.laws.standing_goes_on.Goals as goal

pub returns : goal.returns
returns c = record { law = standing-goes-on }
