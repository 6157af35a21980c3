use Rattle.std.proofs.Common.{◌≡◌, false, drop}
use Rattle.hv_trail.proofs.Written.{any_put}
use Rattle.hv_trail.proofs.kept.any_written.Given as goal

abbrev pub invariant-loop-at : goal.invariant-loop-at
invariant-loop-at l = any_put l.reader l.place (drop l.at l.marks) ≡ false
