use Rattle.hv_law_filed.proofs.QuietEntries.{quiet-entries-stand, other-entries-stand}
use Rattle.hv_law_filed.proofs.laws.entries_stand.Goals as goal

pub returns : goal.returns
returns c = record { quiet = quiet-entries-stand; others = other-entries-stand }
