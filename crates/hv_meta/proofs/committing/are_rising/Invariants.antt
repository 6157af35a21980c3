use Rattle.std.proofs.Common.{◌≡◌, length}
use Rattle.hv_meta.specs.Committing.{are_rising}
use Rattle.hv_meta.proofs.committing.are_rising.Given as goal

abbrev pub invariant-loop-rest : goal.invariant-loop-rest
invariant-loop-rest l = are_rising l.rest ≡ are_rising l.wrote

abbrev pub decreases-loop-rest : goal.decreases-loop-rest
decreases-loop-rest l = length l.rest
