use Rattle.hv_law_jobs.proofs.GoLemmas.{jobs-are-sound}
use Rattle.hv_law_jobs.proofs.laws.jobs_are_sound.Goals as goal

pub returns : goal.returns
returns c = record { law = jobs-are-sound }
