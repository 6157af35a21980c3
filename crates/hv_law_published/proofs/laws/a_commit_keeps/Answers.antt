use Rattle.hv_law_published.proofs.EndLemmas.{commit-keeps}
use Rattle.hv_law_published.proofs.laws.a_commit_keeps.Goals as goal

pub returns : goal.returns
returns g c = record { law = commit-keeps }
