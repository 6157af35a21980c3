use Rattle.hv_stands.proofs.Begun.{ids-given}
use Rattle.hv_stands.proofs.laws.ids_are_given.Goals as goal

pub returns : goal.returns
returns c = record { law = ids-given }
