use Rattle.hv_trail.proofs.LastingLaws.{open-before}
use Rattle.hv_trail.proofs.lasting.open_was_open.Goals as goal

pub returns : goal.returns
returns c = record { law = open-before }
