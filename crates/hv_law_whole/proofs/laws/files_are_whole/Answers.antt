use Rattle.hv_law_whole.proofs.WholeLemmas.{files-whole}
use Rattle.hv_law_whole.proofs.laws.files_are_whole.Goals as goal

pub returns : goal.returns
returns c = record { law = files-whole }
