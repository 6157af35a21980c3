use Rattle.hv_law_filed.proofs.OwnChanges.{puts-stand}
use Rattle.hv_law_filed.proofs.laws.puts_stand.Goals as goal

pub returns : goal.returns
returns c = record { law = puts-stand }
