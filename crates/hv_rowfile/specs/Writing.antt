-- What can be written, and what has a spelling, as one fact of a value.
use Rattle.std.specs.Prelude.{◌<◌, ◌^◌, length}
use Rattle.hv_value.specs.declared.value.Value.{Value}
use Rattle.hv_rowfile.specs.Layout.{element_spelling, value_spelling, ElementIsTaken, ValueIsTaken, ElementFits, ValueFits}

abbrev pub IsElement : Value → Type 0
IsElement value = ElementIsTaken value × ElementFits value

abbrev pub IsValue : Value → Type 0
IsValue value = ValueIsTaken value × ValueFits value

abbrev pub CanPutElement : Value → Type 0
CanPutElement value = ElementIsTaken value × (length (element_spelling value) < 2 ^ 32)

abbrev pub CanPutValue : Value → Type 0
CanPutValue value = ValueIsTaken value × (length (value_spelling value) < 2 ^ 32)
