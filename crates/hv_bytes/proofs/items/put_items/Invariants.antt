use Rattle.std.proofs.Common.{take}
use Rattle.std.specs.List.{flat_map, AllByRecursion}
use Rattle.hv_bytes.specs.Writing.{Appends}
use Rattle.hv_bytes.proofs.items.put_items.Given as goal

abbrev pub invariant-loop-item : goal.invariant-loop-item
invariant-loop-item g l = record {
  appended : Appends l.fn.out l.out (flat_map g.F.Field.spelling (take l.item-index l.items));
  has : AllByRecursion g.F.Field.Has (take l.item-index l.items);
}
