use Rattle.std.proofs.Common.{◌≡◌, ◌++◌, take}
use Rattle.std.specs.List.{flat_map}
use Rattle.hv_table_rows.specs.Reading.{deleted_with}
use Rattle.hv_table_rows.proofs.rows.push_all_deleted.Given as goal

abbrev pub invariant-loop-rec : goal.invariant-loop-rec
invariant-loop-rec l = l.gone.items ≡ l.initial.gone.items ++ flat_map (deleted_with l.list l.partition) (take l.rec-index l.recs)
