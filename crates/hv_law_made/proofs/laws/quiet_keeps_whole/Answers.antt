use Rattle.hv_law_made.proofs.QuietOpenings.{quiet-keeps-whole}
use Rattle.hv_law_made.proofs.laws.quiet_keeps_whole.Goals as goal

pub returns : goal.returns
returns c = record { law = quiet-keeps-whole }
