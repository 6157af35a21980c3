use Rattle.std.proofs.Common.{refl}
use Rattle.tests_seats.proofs.apart.work.Goals as goal

pub sit-requires-clause-fixed : goal.sit-requires-clause-fixed
sit-requires-clause-fixed g c = refl

pub returns : goal.returns
returns g c = record { seat = record { free = c.sit.ensures.free; same = c.sit.ensures.fixed } }
