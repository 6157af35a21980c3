use Rattle.hv_law_work.proofs.Puts.{marked-is-staged}
use Rattle.hv_law_work.proofs.laws.marked_is_staged.Goals as goal

pub returns : goal.returns
returns c = record { law = marked-is-staged }
