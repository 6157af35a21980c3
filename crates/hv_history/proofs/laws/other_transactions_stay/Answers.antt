use Rattle.hv_history.proofs.LastingLaws.{others-stay}
use Rattle.hv_history.proofs.laws.other_transactions_stay.Goals as goal

pub returns : goal.returns
returns c = record { law = others-stay }
