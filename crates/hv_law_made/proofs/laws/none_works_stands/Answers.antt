use Rattle.hv_law_made.proofs.ListedJobs.{none-works-stands}
use Rattle.hv_law_made.proofs.laws.none_works_stands.Goals as goal

pub returns : goal.returns
returns c = record { law = none-works-stands }
