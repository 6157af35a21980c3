use Rattle.hv_law_whole.proofs.KeptLemmas.{readers-are-shown}
use Rattle.hv_law_whole.proofs.laws.readers_are_shown.Goals as goal

pub returns : goal.returns
returns c = record { law = readers-are-shown }
