use Rattle.hv_history.proofs.StateLaws.{answer-stays}
use Rattle.hv_history.proofs.laws.answers_stay.Goals as goal

pub returns : goal.returns
returns c = record { law = answer-stays }
