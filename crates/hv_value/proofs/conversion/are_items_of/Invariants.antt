use Rattle.std.proofs.Common.{◌≡◌, drop}
use Rattle.std.specs.List.{list_all}
use Rattle.hv_value.specs.Conversion.{is_item_of}
use Rattle.hv_value.proofs.conversion.are_items_of.Given as goal

abbrev pub invariant-loop-item : goal.invariant-loop-item
invariant-loop-item l = list_all (is_item_of l.elem) (drop l.item-index l.items) ≡ list_all (is_item_of l.elem) l.items
