use Rattle.hv_law_work.proofs.Stays.{wants-stay, job-file-lasts, staged-lasts}
use Rattle.hv_law_work.proofs.laws.what_is_wanted_stays.Goals as goal

pub returns : goal.returns
returns c = record { wants = wants-stay; file = job-file-lasts; staged = staged-lasts }
