use Rattle.hv_law_work.proofs.Puts.{gone-stand}
use Rattle.hv_law_work.proofs.laws.gone_stands.Goals as goal

pub returns : goal.returns
returns c = record { law = gone-stand }
