use Rattle.hv_law_made.proofs.OpeningStands.{recovered-go-on}
use Rattle.hv_law_made.proofs.laws.recovered_go_on.Goals as goal

pub returns : goal.returns
returns c = record { law = recovered-go-on }
