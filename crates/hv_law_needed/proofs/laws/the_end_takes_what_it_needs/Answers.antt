use Rattle.hv_law_needed.proofs.NeededLemmas.{end-needs}
use Rattle.hv_law_needed.proofs.laws.the_end_takes_what_it_needs.Goals as goal

pub returns : goal.returns
returns g c = record { law = end-needs }
