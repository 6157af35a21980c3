use Rattle.hv_stands.proofs.Begun.{opens, starts, begins}
use Rattle.hv_stands.proofs.laws.begins.Goals as goal

pub returns : goal.returns
returns c = record { opens = opens; starts = starts; both = begins }
