use Rattle.std.proofs.Common.{◌≡◌, drop}
use Rattle.std.specs.List.{list_all}
use Rattle.hv_typing.specs.Inserts.{has_count}
use Rattle.hv_changes.proofs.values.all_counted.Given as goal

abbrev pub invariant-loop-row : goal.invariant-loop-row
invariant-loop-row l = list_all (has_count l.count) (drop l.row-index l.rows) ≡ list_all (has_count l.count) l.rows
