use Rattle.hv_changes.proofs.PartsAlike.{parts-alike}
use Rattle.hv_changes.proofs.laws.parts_meet_alike.Goals as goal

pub returns : goal.returns
returns c = record { law = parts-alike }
