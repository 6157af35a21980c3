use Rattle.std.proofs.Common.{refl}
use Rattle.hv_law_next.specs.Next.{next_of}
use Rattle.hv_law_next.proofs.laws.worked_by_hand.Goals as goal

pub returns : goal.returns
unfolding next_of
returns c = record { asks = refl; meets = refl; commits = refl; held = refl; refused = refl }
