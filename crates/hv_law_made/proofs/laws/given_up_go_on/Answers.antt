use Rattle.hv_law_made.proofs.GoingStands.{given-up-go-on}
use Rattle.hv_law_made.proofs.laws.given_up_go_on.Goals as goal

pub returns : goal.returns
returns c = record { law = given-up-go-on }
