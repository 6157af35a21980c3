use Rattle.std.proofs.Common.{◌≡◌, drop}
use Rattle.hv_typing.specs.Targets.{is_item}
use Rattle.hv_changes.proofs.partitions.is_item.Given as goal

abbrev pub invariant-loop-item : goal.invariant-loop-item
invariant-loop-item l = is_item (drop l.item-index l.items) l.name ≡ is_item l.items l.name
