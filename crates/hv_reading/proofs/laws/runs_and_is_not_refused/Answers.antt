use Rattle.hv_reading.proofs.Either.{runs-not_refused}
use Rattle.hv_reading.proofs.laws.runs_and_is_not_refused.Goals as goal

pub returns : goal.returns
returns c = record { law = runs-not_refused }
