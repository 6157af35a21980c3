use Rattle.hv_stands.proofs.Others.{others-leave-it}
use Rattle.hv_stands.proofs.laws.others_leave_it.Goals as goal

pub returns : goal.returns
returns c = record { law = others-leave-it }
