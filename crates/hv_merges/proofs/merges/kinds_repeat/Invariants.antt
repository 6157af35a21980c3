use Rattle.std.proofs.Common.{◌≡◌, drop}
use Rattle.hv_typing.specs.Merges.{kinds_repeat}
use Rattle.hv_merges.proofs.merges.kinds_repeat.Given as goal

abbrev pub invariant-loop-i : goal.invariant-loop-i
invariant-loop-i l = kinds_repeat (drop l.i l.clauses) ≡ kinds_repeat l.clauses
