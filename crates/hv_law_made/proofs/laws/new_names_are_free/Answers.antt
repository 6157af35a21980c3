use Rattle.hv_law_made.proofs.FreeLemmas.{new-free}
use Rattle.hv_law_made.proofs.laws.new_names_are_free.Goals as goal

pub returns : goal.returns
returns c = record { law = new-free }
