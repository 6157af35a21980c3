use Rattle.hv_law_whole.proofs.KeptLemmas.{jobs-read}
use Rattle.hv_law_whole.proofs.laws.jobs_read_up_to_mark.Goals as goal

pub returns : goal.returns
returns c = record { law = jobs-read }
