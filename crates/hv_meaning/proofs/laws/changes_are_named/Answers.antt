use Rattle.hv_meaning.proofs.Meanings.{changes-named}
use Rattle.hv_meaning.proofs.laws.changes_are_named.Goals as goal

pub returns : goal.returns
returns c = record { law = changes-named }
