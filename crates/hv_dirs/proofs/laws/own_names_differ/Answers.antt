use Rattle.hv_dirs.proofs.OwnNames.{own_name-same}
use Rattle.hv_dirs.proofs.laws.own_names_differ.Goals as goal

pub returns : goal.returns
returns c = record { law = own_name-same }
