use Rattle.hv_house.proofs.EndLoops.{IsEnding}
use Rattle.hv_house.proofs.house.House.end_jobs.Given as goal

abbrev pub invariant-loop-i : goal.invariant-loop-i
invariant-loop-i g l = IsEnding g.D.Shelf.told g.D.Shelf.faults g.D.Shelf.hard l.whole l.fn.self l.self l.i
