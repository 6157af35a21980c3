use Rattle.std.proofs.Common.{◌≡◌, take, min, sum_by}
use Rattle.hv_logic.specs.Sizes.{stored_size}
use Rattle.hv_logic.proofs.sizes.+sizes.Given as goal

abbrev pub invariant-stored_sizes-loop-value : goal.invariant-stored_sizes-loop-value
invariant-stored_sizes-loop-value l =
    l.size ≡ min (sum_by stored_size (take l.value-index l.values)) 18446744073709551615
