use Rattle.hv_law_published.proofs.EndLemmas.{aborted-write-keeps}
use Rattle.hv_law_published.proofs.laws.an_aborted_write_keeps.Goals as goal

pub returns : goal.returns
returns g c = record { law = aborted-write-keeps }
