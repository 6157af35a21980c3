use Rattle.hv_law_made.proofs.ListedJobs.{listed-are-whole}
use Rattle.hv_law_made.proofs.laws.listed_are_whole.Goals as goal

pub returns : goal.returns
returns c = record { law = listed-are-whole }
