use Rattle.hv_meaning.proofs.Unseen.{unseen, unseen-in}
use Rattle.hv_meaning.proofs.laws.rows_are_unseen.Goals as goal

pub returns : goal.returns
returns c = record { named = unseen-in; live = unseen }
