use Rattle.std.proofs.Common.{◌≡◌, drop}
use Rattle.std.specs.List.{list_all}
use Rattle.hv_route.specs.Touching.{stored_fits}
use Rattle.hv_route.proofs.counts.all_fit.Given as goal

abbrev pub invariant-loop-row : goal.invariant-loop-row
invariant-loop-row l = list_all (stored_fits l.shape) (drop l.row-index l.rows) ≡ list_all (stored_fits l.shape) l.rows
