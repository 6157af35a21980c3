use Rattle.hv_meaning.proofs.Stored.{typed-stored}
use Rattle.hv_meaning.proofs.laws.typed_values_are_stored.Goals as goal

pub returns : goal.returns
returns c = record { law = typed-stored }
