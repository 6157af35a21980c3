use Rattle.hv_conflicts.proofs.ClashLemmas.{clash-fits}
use Rattle.hv_conflicts.proofs.laws.clash_fits.Goals as goal

pub returns : goal.returns
returns c = record { law = clash-fits }
