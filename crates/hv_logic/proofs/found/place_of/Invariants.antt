use Rattle.std.proofs.Common.{◌≡◌, ◌++◌, take, drop}
use Rattle.hv_logic.specs.Rows.{found_cmp}
use Rattle.hv_base.specs.Sorting.{put_by}
use Rattle.hv_logic.proofs.found.place_of.Given as goal

abbrev pub invariant-loop-i : goal.invariant-loop-i
invariant-loop-i l = take l.i l.rows ++ put_by found_cmp l.found (drop l.i l.rows) ≡ put_by found_cmp l.found l.rows
