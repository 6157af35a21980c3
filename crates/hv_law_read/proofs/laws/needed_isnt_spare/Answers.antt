use Rattle.hv_law_read.proofs.NeedLemmas.{needed-isnt-spare}
use Rattle.hv_law_read.proofs.laws.needed_isnt_spare.Goals as goal

pub returns : goal.returns
returns c = record { law = needed-isnt-spare }
