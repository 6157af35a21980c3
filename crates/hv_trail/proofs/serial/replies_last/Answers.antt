use Rattle.hv_trail.proofs.SerialLaws.{answer-lasts}
use Rattle.hv_trail.proofs.serial.replies_last.Goals as goal

pub returns : goal.returns
returns c = record { law = answer-lasts }
