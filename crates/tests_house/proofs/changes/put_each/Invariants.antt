use Rattle.tests_house.specs.Asking.{StaysOpen}
use Rattle.tests_house.proofs.changes.put_each.Given as goal

abbrev pub invariant-loop-file : goal.invariant-loop-file
invariant-loop-file g l = StaysOpen g.D.Shelf.told l.initial.house l.house
