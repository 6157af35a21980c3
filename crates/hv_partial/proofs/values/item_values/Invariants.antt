use Rattle.std.proofs.Common.{◌≡◌, take}
use Rattle.hv_eval.specs.Frames.{values_at}
use Rattle.hv_partial.proofs.values.item_values.Given as goal

abbrev pub invariant-loop-item : goal.invariant-loop-item
invariant-loop-item l = l.values.items ≡ values_at (take l.item-index l.items) l.at
