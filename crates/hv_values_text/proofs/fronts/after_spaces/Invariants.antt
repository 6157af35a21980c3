-- What stands after the spaces of the text stands after those of the rest.
use Rattle.std.proofs.Common.{◌≡◌, length}
use Rattle.hv_values_text.specs.Fronts.{after_spaces}
use Rattle.hv_values_text.proofs.fronts.after_spaces.Given as goal

abbrev pub invariant-loop-rest : goal.invariant-loop-rest
invariant-loop-rest l = after_spaces l.text ≡ after_spaces l.rest

abbrev pub decreases-loop-rest : goal.decreases-loop-rest
decreases-loop-rest l = length l.rest
