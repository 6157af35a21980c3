use Rattle.std.proofs.Common.{◌≡◌, take, drop, []}
use Rattle.hv_typing.specs.Partitions.{are_given}
use Rattle.hv_changes.proofs.partitions.are_given.Given as goal

abbrev pub invariant-loop-i : goal.invariant-loop-i
invariant-loop-i l = are_given l.parts (take l.i l.items) (drop l.i l.items) ≡ are_given l.parts [] l.items
