use Rattle.hv_law_whole.proofs.RangeLemmas.{jobs-shown}
use Rattle.hv_law_whole.proofs.laws.jobs_are_shown.Goals as goal

pub returns : goal.returns
returns c = record { law = jobs-shown }
