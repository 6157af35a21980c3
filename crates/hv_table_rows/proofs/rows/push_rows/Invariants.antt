use Rattle.std.proofs.Common.{◌≡◌, ◌++◌}
use Rattle.std.specs.List.{flat_map}
use Rattle.hv_table_rows.specs.Reading.{found_with, left_of}
use Rattle.hv_table_rows.proofs.rows.push_rows.Given as goal

abbrev pub invariant-loop-rec : goal.invariant-loop-rec
invariant-loop-rec l =
    l.rows.items ++ left_of l.gone (flat_map (found_with l.list l.partition.text l.partition.values) l.rec-iterator.rest.items)
    ≡ l.initial.rows.items ++ left_of l.gone (flat_map (found_with l.list l.partition.text l.partition.values) l.fn.recs.items)
