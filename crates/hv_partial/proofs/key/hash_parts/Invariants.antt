use Rattle.std.proofs.Common.{◌≡◌, take, fold}
use Rattle.std.specs.List.{flat_map}
use Rattle.hv_value.specs.Hashing.{value_writes}
use Rattle.hv_partial.specs.Keys.{key_values}
use Rattle.hv_partial.proofs.key.hash_parts.Given as goal

abbrev pub invariant-loop-part : goal.invariant-loop-part
invariant-loop-part g l =
    l.state ≡ fold g.H.Hasher.write l.initial.state (flat_map value_writes (key_values (take l.part-index l.parts)))
