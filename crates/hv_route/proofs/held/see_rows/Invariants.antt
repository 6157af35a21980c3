use Rattle.std.proofs.Common.{drop}
use Rattle.hv_route.specs.Back.{AreHeld}
use Rattle.hv_route.proofs.held.see_rows.Given as goal

abbrev pub invariant-loop-row : goal.invariant-loop-row
invariant-loop-row l = AreHeld (drop l.row-index l.rows) → AreHeld l.rows
