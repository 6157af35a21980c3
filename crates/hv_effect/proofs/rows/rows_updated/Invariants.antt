use Rattle.std.proofs.Common.{◌≡◌, map, take}
use Rattle.hv_meaning.specs.Meaning.{found_frame, stored_row}
use Rattle.hv_effect.proofs.rows.rows_updated.Given as goal

abbrev pub invariant-loop-one : goal.invariant-loop-one
invariant-loop-one l = l.made.items ≡ map (stored_row l.columns l.exprs) (map found_frame (take l.one-index l.found))
