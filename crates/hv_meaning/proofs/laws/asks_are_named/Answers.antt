use Rattle.hv_meaning.proofs.Asks.{asks-named}
use Rattle.hv_meaning.proofs.laws.asks_are_named.Goals as goal

pub returns : goal.returns
returns c = record { law = asks-named }
