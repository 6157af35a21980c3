use Rattle.hv_telling.proofs.Opens.{faithful-is-left}
use Rattle.hv_telling.proofs.laws.faithful_is_left.Goals as goal

pub returns : goal.returns
returns c = record { law = faithful-is-left }
