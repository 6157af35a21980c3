use Rattle.hv_trail.proofs.SerialLaws.{serial-more}
use Rattle.hv_trail.proofs.serial.one_after_another.Goals as goal

pub returns : goal.returns
returns c = record { law = serial-more }
