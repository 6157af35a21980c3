use Rattle.hv_trail.proofs.OwnLaws.{others-leave}
use Rattle.hv_trail.proofs.lasting.others_leave_it.Goals as goal

pub returns : goal.returns
returns c = record { law = others-leave }
