use Rattle.hv_law_directories.proofs.WorkedLemmas.{directories-by-hand}
use Rattle.hv_law_directories.proofs.laws.directories_by_hand.Goals as goal

pub returns : goal.returns
returns c = record { law = directories-by-hand }
