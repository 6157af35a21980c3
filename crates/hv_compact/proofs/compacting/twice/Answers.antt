use Rattle.std.proofs.Common.{inl, inr, refl}
use Rattle.hv_compact.proofs.compacting.twice.Goals as goal

pub returns-in-Ok : goal.returns-in-Ok
returns-in-Ok c = record { causes = record { noted = inl refl; told = c.in-Ok.ensures } }

pub returns-in-Err : goal.returns-in-Err
returns-in-Err c = record { causes = record { noted = inr refl; told = refl } }
