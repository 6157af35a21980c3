-- The value that is held.
use Rattle.hv_value.specs.declared.value.Value.{Value}
use Rattle.hv_seen.specs.Seen.{seen_value}
use Rattle.hv_eval.specs.declared.held.Held.{Held}
use Rattle.hv_eval.specs.declared.held.Held.TheVariants as held

abbrev pub held_value : Held → Value
held_value (held.Seen value) = seen_value value
held_value (held.Made value) = value
