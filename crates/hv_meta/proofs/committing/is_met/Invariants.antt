use Rattle.std.proofs.Common.{◌≡◌, drop}
use Rattle.hv_meta.specs.Committing.{is_met}
use Rattle.hv_meta.proofs.committing.is_met.Given as goal

abbrev pub invariant-loop-touch : goal.invariant-loop-touch
invariant-loop-touch l = is_met (drop l.touch-index l.wrote) l.table ≡ is_met l.wrote l.table
