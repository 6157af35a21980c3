use Rattle.std.specs.List.{AllZip}
use Rattle.hv_shuffle.specs.Calls.{IsMade}
use Rattle.hv_shuffle.proofs.shuffle.unwrapped.Given as goal

abbrev pub invariant-loop-answer : goal.invariant-loop-answer
invariant-loop-answer g l = AllZip IsMade l.yielded l.all.items
