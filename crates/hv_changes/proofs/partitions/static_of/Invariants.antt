use Rattle.std.proofs.Common.{◌≡◌, drop}
use Rattle.hv_typing.specs.Targets.{static_of}
use Rattle.hv_changes.proofs.partitions.static_of.Given as goal

abbrev pub invariant-loop-item : goal.invariant-loop-item
invariant-loop-item l = static_of (drop l.item-index l.items) l.name ≡ static_of l.items l.name
