use Rattle.std.proofs.Common.{◌≡◌, drop}
use Rattle.hv_typing.specs.Selects.{behind}
use Rattle.hv_typing.specs.Partitions.{items_met}
use Rattle.hv_changes.proofs.partitions.items_met.Given as goal

abbrev pub invariant-loop-item : goal.invariant-loop-item
invariant-loop-item l = behind l.conditions.items (items_met l.columns l.kinds (drop l.item-index l.items)) ≡ items_met l.columns l.kinds l.items
