use Rattle.hv_law_made.proofs.FrameLemmas.{changes-stand}
use Rattle.hv_law_made.proofs.laws.changes_stand.Goals as goal

pub returns : goal.returns
returns c = record { law = changes-stand }
