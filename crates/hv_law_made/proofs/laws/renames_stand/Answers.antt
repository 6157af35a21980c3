use Rattle.hv_law_made.proofs.RenameStands.{renames-stand}
use Rattle.hv_law_made.proofs.laws.renames_stand.Goals as goal

pub returns : goal.returns
returns c = record { law = renames-stand }
