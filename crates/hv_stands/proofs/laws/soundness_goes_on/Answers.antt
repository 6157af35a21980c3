use Rattle.hv_stands.proofs.Keeping.{sound-after}
use Rattle.hv_stands.proofs.laws.soundness_goes_on.Goals as goal

pub returns : goal.returns
returns c = record { law = sound-after }
