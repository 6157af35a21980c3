use Rattle.hv_law_read.proofs.NeedLemmas.{needed-stands}
use Rattle.hv_law_read.proofs.laws.needed_stands.Goals as goal

pub returns : goal.returns
returns c = record { law = needed-stands }
