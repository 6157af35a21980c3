use Rattle.std.proofs.Common.{◌≡◌, take, fold}
use Rattle.std.specs.List.{flat_map}
use Rattle.hv_value.specs.Hashing.{value_writes}
use Rattle.hv_value.proofs.hashing.+value_hashes.Given as goal

abbrev pub invariant-hash_all-loop-value : goal.invariant-hash_all-loop-value
invariant-hash_all-loop-value g l =
    l.state ≡ fold g.H.Hasher.write l.initial.state (flat_map value_writes (take l.value-index l.values))
