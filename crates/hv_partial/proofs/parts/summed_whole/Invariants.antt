use Rattle.std.proofs.Common.{◌≡◌, [], fold, take}
use Rattle.hv_partial.specs.Kept.{summed}
use Rattle.hv_partial.specs.Merged.{summed_merged}
use Rattle.hv_partial.proofs.parts.summed_whole.Given as goal

abbrev pub invariant-loop-part : goal.invariant-loop-part
invariant-loop-part l = l.whole ≡ fold (summed_merged l.sums) (summed l.sums []) (take l.part-index l.parts)
