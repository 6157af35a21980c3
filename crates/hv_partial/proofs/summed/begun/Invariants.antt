use Rattle.std.proofs.Common.{◌≡◌, [], map, take}
use Rattle.hv_seen.specs.Seen.{seen_value}
use Rattle.hv_partial.specs.Sums.{sums_over}
use Rattle.hv_partial.proofs.summed.begun.Given as goal

abbrev pub invariant-loop-sum : goal.invariant-loop-sum
invariant-loop-sum l = map seen_value l.kept.items ≡ sums_over (take l.sum-index l.sums) []
