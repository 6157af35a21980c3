use Rattle.std.proofs.Common.{◌≡◌, map, take}
use Rattle.hv_meaning.specs.Meaning.{frame_of, stored_row}
use Rattle.hv_effect.proofs.rows.rows_selected.Given as goal

abbrev pub invariant-loop-row : goal.invariant-loop-row
invariant-loop-row l = l.made.items ≡ map (stored_row l.columns l.exprs) (map frame_of (take l.row-index l.rows))
