-- The value that is seen.
use Rattle.std.specs.Prelude.{false, true}
use Rattle.hv_value.specs.declared.value.Value.{Value}
use Rattle.hv_value.specs.declared.value.Value.TheOpen.{Value-F}
use Rattle.hv_value.specs.declared.value.Value.TheViews.{roll-Value}
use Rattle.hv_seen.specs.declared.seen.Seen.{Seen}
use Rattle.hv_seen.specs.declared.seen.Seen.TheVariants as seen

abbrev pub seen_layer : Seen → Value-F Value
seen_layer seen.Null = Value-F.Null
seen_layer seen.False = Value-F.Bool false
seen_layer seen.True = Value-F.Bool true
seen_layer (seen.Int number) = Value-F.Int number
seen_layer (seen.Big number) = Value-F.Big number
seen_layer (seen.Str text) = Value-F.Str text.now
seen_layer (seen.Day day) = Value-F.Day day
seen_layer (seen.Array items) = Value-F.Array items.now

abbrev pub seen_value : Seen → Value
seen_value value = roll-Value (seen_layer value)
