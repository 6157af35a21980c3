use Rattle.std.proofs.Common.{◌≡◌, map, take}
use Rattle.hv_seen.specs.Seen.{seen_value}
use Rattle.hv_partial.proofs.summed.put_values.Given as goal

abbrev pub invariant-loop-sum : goal.invariant-loop-sum
invariant-loop-sum l = l.values.items ≡ map seen_value (take l.sum-index l.sums)
