use Rattle.std.proofs.Common.{◌≡◌, drop}
use Rattle.std.specs.List.{list_any}
use Rattle.hv_book.specs.hv_history.specs.Legal.{touch_conflicts}
use Rattle.hv_meta.proofs.committing.conflicts_with.Given as goal

abbrev pub invariant-loop-other : goal.invariant-loop-other
invariant-loop-other l = list_any (touch_conflicts l.touch) (drop l.other-index l.those) ≡ list_any (touch_conflicts l.touch) l.those
