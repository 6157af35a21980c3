use Rattle.hv_law_work.proofs.Puts.{staged-puts-stand}
use Rattle.hv_law_work.proofs.laws.staged_puts_stand.Goals as goal

pub returns : goal.returns
returns c = record { law = staged-puts-stand }
