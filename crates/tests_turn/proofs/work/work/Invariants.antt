use Rattle.std.proofs.Common.{◌≤◌}
use Rattle.tests_turn.specs.Work.{IsLater}
use Rattle.tests_turn.proofs.work.work.Given as goal

abbrev pub invariant-loop-number : goal.invariant-loop-number
invariant-loop-number g l = IsLater l.added l.initial.seat l.seat × (l.added ≤ l.number)
