use Rattle.hv_law_whole.proofs.KeptLemmas.{end-is-shown}
use Rattle.hv_law_whole.proofs.laws.the_end_is_shown.Goals as goal

pub returns : goal.returns
returns c = record { law = end-is-shown }
