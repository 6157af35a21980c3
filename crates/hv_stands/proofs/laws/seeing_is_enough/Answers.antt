use Rattle.hv_stands.proofs.SeeingEnough.{seeing-enough, changed-table-stood, tables-stay, effects-written}
use Rattle.hv_stands.proofs.laws.seeing_is_enough.Goals as goal

pub returns : goal.returns
returns c = record { seeing = seeing-enough; changed = changed-table-stood; tables = tables-stay; written = effects-written }
