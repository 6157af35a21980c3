use Rattle.hv_paths.proofs.PathLemmas.{folders_of-same}
use Rattle.hv_paths.proofs.laws.folders_differ.Goals as goal

pub returns : goal.returns
returns c = record { law = folders_of-same }
