use Rattle.std.proofs.Common.{◌≡◌, ◌++◌, drop}
use Rattle.std.specs.List.{flat_map}
use Rattle.hv_counts.specs.Counts.{due_of}
use Rattle.hv_counts.proofs.dues.push_touches.Given as goal

abbrev pub invariant-loop-touch : goal.invariant-loop-touch
invariant-loop-touch l =
    l.dues.items ++ flat_map (due_of l.table l.write) (drop l.touch-index l.wrote) ≡ l.fn.dues.items ++ flat_map (due_of l.table l.write) l.wrote
