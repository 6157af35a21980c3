use Rattle.std.proofs.Common.{◌≡◌, ◌++◌, drop}
use Rattle.std.specs.List.{flat_map}
use Rattle.hv_history.specs.Shown.{inserted_row}
use Rattle.hv_showing.proofs.partitions.put_touches.Given as goal

abbrev pub invariant-loop-touch : goal.invariant-loop-touch
invariant-loop-touch l =
    l.rows.items ++ flat_map (inserted_row l.table) (drop l.touch-index l.wrote) ≡ l.fn.rows.items ++ flat_map (inserted_row l.table) l.wrote
