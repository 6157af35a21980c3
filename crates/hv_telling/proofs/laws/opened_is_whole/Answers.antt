use Rattle.hv_telling.proofs.Opening.{opened-is-whole, opened-is-told}
use Rattle.hv_telling.proofs.laws.opened_is_whole.Goals as goal

pub returns : goal.returns
returns g c = record { whole = opened-is-whole; told = opened-is-told }
