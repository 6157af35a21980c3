use Rattle.hv_law_work.proofs.Puts.{gone-is-filed}
use Rattle.hv_law_work.proofs.laws.gone_is_filed.Goals as goal

pub returns : goal.returns
returns c = record { law = gone-is-filed }
