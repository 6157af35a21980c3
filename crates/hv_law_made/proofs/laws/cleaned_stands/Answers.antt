use Rattle.hv_law_made.proofs.StepStands.{cleaned-stands}
use Rattle.hv_law_made.proofs.laws.cleaned_stands.Goals as goal

pub returns : goal.returns
returns c = record { law = cleaned-stands }
