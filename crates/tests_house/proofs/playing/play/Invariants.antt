use Rattle.tests_house.specs.Asking.{told_memory, IsOpen}
use Rattle.tests_house.proofs.playing.play.Given as goal

abbrev pub invariant-loop-line : goal.invariant-loop-line
invariant-loop-line l = IsOpen told_memory l.house
