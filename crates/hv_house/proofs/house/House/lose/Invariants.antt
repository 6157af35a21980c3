use Rattle.hv_house.proofs.Boots.{IsLosing}
use Rattle.hv_house.proofs.house.House.lose.Given as goal

abbrev pub invariant-loop-i : goal.invariant-loop-i
invariant-loop-i g l = IsLosing g.D.Shelf.told g.D.Shelf.faults g.D.Shelf.hard l.fn.self l.self l.unended l.i
