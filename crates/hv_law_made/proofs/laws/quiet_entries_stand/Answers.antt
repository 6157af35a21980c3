use Rattle.hv_law_made.proofs.OpenStands.{quiet-entries-stand}
use Rattle.hv_law_made.proofs.laws.quiet_entries_stand.Goals as goal

pub returns : goal.returns
returns c = record { law = quiet-entries-stand }
