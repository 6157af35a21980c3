-- The key of a row: its values as they are seen, or made where that takes memory.
use Rattle.std.specs.Prelude.{List, map}
use Rattle.hv_value.specs.declared.value.Value.{Value}
use Rattle.hv_seen.specs.Seen.{seen_value}
use Rattle.hv_partial.specs.declared.key.KeyPart.{KeyPart}
use Rattle.hv_partial.specs.declared.key.KeyPart.TheVariants as part

abbrev pub part_value : KeyPart → Value
part_value (part.Seen value) = seen_value value
part_value (part.Made value) = value

abbrev pub key_values : List KeyPart → List Value
key_values parts = map part_value parts
