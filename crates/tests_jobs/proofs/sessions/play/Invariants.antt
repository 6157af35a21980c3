use Rattle.tests_jobs.specs.Keeping.{IsAtHand}
use Rattle.tests_jobs.proofs.sessions.play.Given as goal

abbrev pub invariant-loop-line : goal.invariant-loop-line
invariant-loop-line g l = IsAtHand g.D.Shelf.told g.D.Shelf.hard l.desk l.house
