use Rattle.hv_law_made.proofs.UnmadeLemmas.{puts-unmade}
use Rattle.hv_law_made.proofs.laws.puts_are_unmade.Goals as goal

pub returns : goal.returns
returns c = record { law = puts-unmade }
