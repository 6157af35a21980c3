use Rattle.hv_law_made.proofs.TableStands.{forgotten-stands}
use Rattle.hv_law_made.proofs.laws.forgotten_stands.Goals as goal

pub returns : goal.returns
returns c = record { law = forgotten-stands }
