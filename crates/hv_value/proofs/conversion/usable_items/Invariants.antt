use Rattle.std.proofs.Common.{◌≡◌, take, map}
use Rattle.hv_value.specs.Conversion.{usable_item}
use Rattle.hv_value.proofs.conversion.usable_items.Given as goal

abbrev pub invariant-loop-item : goal.invariant-loop-item
invariant-loop-item l = l.usable.items ≡ map usable_item (take l.item-index l.items)
