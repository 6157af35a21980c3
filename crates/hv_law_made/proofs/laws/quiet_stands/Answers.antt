use Rattle.hv_law_made.proofs.QuietLemmas.{quiet-stands}
use Rattle.hv_law_made.proofs.laws.quiet_stands.Goals as goal

pub returns : goal.returns
returns c = record { law = quiet-stands }
