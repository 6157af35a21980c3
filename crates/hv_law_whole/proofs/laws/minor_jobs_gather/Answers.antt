use Rattle.hv_law_whole.proofs.GatherLemmas.{minor-jobs-gather}
use Rattle.hv_law_whole.proofs.laws.minor_jobs_gather.Goals as goal

pub returns : goal.returns
returns c = record { law = minor-jobs-gather }
