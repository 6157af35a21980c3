use Rattle.std.proofs.Common.{◌≡◌, ◌≤◌, take}
use Rattle.hv_route.specs.Touching.{inserted_count, deleted_count}
use Rattle.hv_route.proofs.counts.touch_of.Given as goal

abbrev pub invariant-loop-mark : goal.invariant-loop-mark
invariant-loop-mark l = record {
  inserted : l.inserted ≡ inserted_count (take l.mark-index l.mark-items);
  deleted : l.deleted ≡ deleted_count (take l.mark-index l.mark-items);
  few : l.inserted ≤ l.mark-index;
  few_deleted : l.deleted ≤ l.mark-index;
}
