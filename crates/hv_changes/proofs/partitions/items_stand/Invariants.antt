use Rattle.std.proofs.Common.{◌≡◌, take, drop, []}
use Rattle.hv_typing.specs.Targets.{items_stand}
use Rattle.hv_changes.proofs.partitions.items_stand.Given as goal

abbrev pub invariant-loop-i : goal.invariant-loop-i
invariant-loop-i l = items_stand l.parts (take l.i l.items) (drop l.i l.items) ≡ items_stand l.parts [] l.items
