use Rattle.hv_law_locks.proofs.Holding.{created-free}
use Rattle.hv_law_locks.proofs.laws.created_names_are_free.Goals as goal

pub returns : goal.returns
returns c = record { law = created-free }
