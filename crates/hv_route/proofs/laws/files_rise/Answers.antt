use Rattle.hv_route.proofs.RisingLemmas.{all-files-rise}
use Rattle.hv_route.proofs.laws.files_rise.Goals as goal

pub returns : goal.returns
returns c = record { law = all-files-rise }
