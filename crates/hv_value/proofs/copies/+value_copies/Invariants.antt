use Rattle.std.proofs.Common.{◌≡◌, take}
use Rattle.hv_value.proofs.copies.+value_copies.Given as goal

abbrev pub invariant-duplicates-loop-value : goal.invariant-duplicates-loop-value
invariant-duplicates-loop-value l = l.copies.items ≡ take l.value-index l.values
