use Rattle.hv_meaning.proofs.Narrow.{narrow-enough}
use Rattle.hv_meaning.proofs.laws.narrow_rows_are_enough.Goals as goal

pub returns : goal.returns
returns c = record { law = narrow-enough }
