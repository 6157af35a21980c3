use Rattle.hv_law_made.proofs.StepStands.{job-steps-stand}
use Rattle.hv_law_made.proofs.laws.job_steps_stand.Goals as goal

pub returns : goal.returns
returns c = record { law = job-steps-stand }
