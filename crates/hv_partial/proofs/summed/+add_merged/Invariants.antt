use Rattle.std.proofs.Common.{length}
use Rattle.hv_partial.proofs.summed.+add_merged.Given as goal

abbrev pub decreases-add_merged : goal.decreases-add_merged
decreases-add_merged l = length l.sums.now
