use Rattle.hv_law_made.proofs.TableStands.{given-stands}
use Rattle.hv_law_made.proofs.laws.given_stands.Goals as goal

pub returns : goal.returns
returns c = record { law = given-stands }
