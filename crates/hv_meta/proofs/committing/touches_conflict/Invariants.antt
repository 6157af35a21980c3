use Rattle.std.proofs.Common.{◌≡◌, drop}
use Rattle.hv_book.specs.hv_history.specs.Legal.{touches_conflict}
use Rattle.hv_meta.proofs.committing.touches_conflict.Given as goal

abbrev pub invariant-loop-touch : goal.invariant-loop-touch
invariant-loop-touch l = touches_conflict (drop l.touch-index l.these) l.those ≡ touches_conflict l.these l.those
