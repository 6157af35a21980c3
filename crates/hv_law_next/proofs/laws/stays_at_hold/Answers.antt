use Rattle.hv_law_next.proofs.Holding.{stays-at-hold}
use Rattle.hv_law_next.proofs.laws.stays_at_hold.Goals as goal

pub returns : goal.returns
returns c = record { law = stays-at-hold }
