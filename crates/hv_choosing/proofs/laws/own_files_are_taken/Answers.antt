use Rattle.hv_choosing.proofs.OwnChoice.{own-taken}
use Rattle.hv_choosing.proofs.laws.own_files_are_taken.Goals as goal

pub returns : goal.returns
returns c = record { law = own-taken }
