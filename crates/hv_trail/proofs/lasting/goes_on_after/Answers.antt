use Rattle.std.proofs.Common.{[], ◌∷◌}
use Rattle.hv_trail.proofs.LastingLaws.{goes-on, goes-on-front}
use Rattle.hv_trail.proofs.lasting.goes_on_after.Goals as goal

pub returns : goal.returns
returns c = record { one = λ trail item. goes-on trail (item ∷ []); all = goes-on; front = goes-on-front }
