use Rattle.hv_meaning.proofs.Drops.{drops-named}
use Rattle.hv_meaning.proofs.laws.dropped_tables_are_named.Goals as goal

pub returns : goal.returns
returns c = record { law = drops-named }
