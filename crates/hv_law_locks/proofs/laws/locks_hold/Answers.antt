use Rattle.hv_law_locks.proofs.Holding.{locks-apart, names-stay}
use Rattle.hv_law_locks.proofs.laws.locks_hold.Goals as goal

pub returns : goal.returns
returns c = record { apart = locks-apart; names = names-stay }
