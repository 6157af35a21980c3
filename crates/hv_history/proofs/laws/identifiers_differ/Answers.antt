use Rattle.hv_history.proofs.StateLaws.{inserts-carry, inserts-differ}
use Rattle.hv_history.proofs.laws.identifiers_differ.Goals as goal

pub returns : goal.returns
returns c = record { carry = inserts-carry; differ = inserts-differ }
