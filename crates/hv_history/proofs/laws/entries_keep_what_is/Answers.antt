use Rattle.hv_history.proofs.LastingLaws.{goes-on, goes-on-all}
use Rattle.hv_history.proofs.laws.entries_keep_what_is.Goals as goal

pub returns : goal.returns
returns c = record { one = goes-on; all = λ state more. goes-on-all more state }
