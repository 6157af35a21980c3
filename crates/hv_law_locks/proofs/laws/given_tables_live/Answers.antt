use Rattle.hv_law_locks.proofs.Holding.{given-live}
use Rattle.hv_law_locks.proofs.laws.given_tables_live.Goals as goal

pub returns : goal.returns
returns c = record { law = given-live }
