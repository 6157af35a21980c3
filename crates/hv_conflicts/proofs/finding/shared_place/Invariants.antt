use Rattle.std.proofs.Common.{◌≡◌, drop}
use Rattle.hv_conflicts.specs.Clashes.{shared_from}
use Rattle.hv_conflicts.proofs.finding.shared_place.Given as goal

abbrev pub invariant-loop-at : goal.invariant-loop-at
invariant-loop-at l = shared_from l.at (drop l.at l.wrote) l.those ≡ shared_from 0 l.wrote l.those
