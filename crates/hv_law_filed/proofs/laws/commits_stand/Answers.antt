use Rattle.hv_law_filed.proofs.Commits.{commits-stand}
use Rattle.hv_law_filed.proofs.laws.commits_stand.Goals as goal

pub returns : goal.returns
returns c = record { law = commits-stand }
