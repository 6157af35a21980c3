use Rattle.std.proofs.Common.{◌≡◌, map, take}
use Rattle.hv_meaning.specs.Meaning.{values_alone, stored_row}
use Rattle.hv_effect.proofs.rows.rows_alone.Given as goal

abbrev pub invariant-loop-row : goal.invariant-loop-row
invariant-loop-row l = l.made.items ≡ map (stored_row l.columns l.exprs) (map values_alone (take l.row-index l.rows))
