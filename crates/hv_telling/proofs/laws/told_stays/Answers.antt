use Rattle.hv_telling.proofs.Told.{told-stays}
use Rattle.hv_telling.proofs.laws.told_stays.Goals as goal

pub returns : goal.returns
returns g c = record { law = told-stays }
