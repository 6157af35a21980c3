use Rattle.hv_law_needed.proofs.NeededLemmas.{reader-needs}
use Rattle.hv_law_needed.proofs.laws.a_reader_takes_what_it_needs.Goals as goal

pub returns : goal.returns
returns g c = record { law = reader-needs }
