use Rattle.std.proofs.Common.{◌≡◌, drop}
use Rattle.std.specs.List.{list_all}
use Rattle.hv_typing.specs.Inserts.{converts}
use Rattle.hv_changes.proofs.values.all_convert.Given as goal

abbrev pub invariant-loop-row : goal.invariant-loop-row
invariant-loop-row l = list_all (converts l.columns) (drop l.row-index l.rows) ≡ list_all (converts l.columns) l.rows
