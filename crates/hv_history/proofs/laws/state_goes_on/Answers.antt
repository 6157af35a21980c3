use Rattle.hv_history.proofs.StateLaws.{state_of-snoc}
use Rattle.hv_history.proofs.laws.state_goes_on.Goals as goal

pub returns : goal.returns
returns c = record { law = state_of-snoc }
