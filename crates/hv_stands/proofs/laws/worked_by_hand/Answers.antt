use Rattle.std.proofs.Common.{refl}
use Rattle.hv_stands.proofs.Worked.{no-insert-file, no-delete-file}
use Rattle.hv_stands.proofs.laws.worked_by_hand.Goals as goal

pub returns : goal.returns
returns c = record { first = refl; second = refl; both = refl; none = no-insert-file; gone = refl; kept = no-delete-file }
