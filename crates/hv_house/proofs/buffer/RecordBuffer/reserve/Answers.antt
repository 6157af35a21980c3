use Rattle.std.proofs.Common.{◌≤◌, arith}
use Rattle.hv_house.proofs.buffer.RecordBuffer.reserve.Goals as goal

pub returns-clause-has : goal.returns-clause-has
returns-clause-has c = λ few. c.make_room.ensures.has (omega (arith, few, c.self.invariant))

pub invariant_of-self : goal.invariant_of-self
invariant_of-self c = omega (arith, c.self.invariant, c.make_room.ensures.keeps)
