use Rattle.hv_law_whole.proofs.GatherLemmas.{major-jobs-gather}
use Rattle.hv_law_whole.proofs.laws.major_jobs_gather.Goals as goal

pub returns : goal.returns
returns c = record { law = major-jobs-gather }
