use Rattle.std.proofs.Common.{take}
use Rattle.tests_books.specs.Following.{Follows}
use Rattle.tests_books.proofs.replay.Replay.of.Given as goal

abbrev pub invariant-loop-at : goal.invariant-loop-at
invariant-loop-at l = Follows (take l.at l.entries) l.replay
