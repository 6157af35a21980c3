use Rattle.hv_law_locks.proofs.Holding.{dropped-named}
use Rattle.hv_law_locks.proofs.laws.dropped_tables_are_named.Goals as goal

pub returns : goal.returns
returns c = record { law = dropped-named }
