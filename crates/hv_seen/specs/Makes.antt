-- The functions of one operand that may make a text or an array, and so may take memory.
use Rattle.std.specs.Prelude.{Bool, true, false, option_map}
use Rattle.hv_value.specs.declared.sql_type.SqlType.{SqlType}
use Rattle.hv_value.specs.declared.sql_type.SqlType.TheVariants as type
use Rattle.hv_value.specs.declared.value.Value.{Value}
use Rattle.hv_value.specs.Conversion.{converted}
use Rattle.hv_text.specs.Characters.{lowered, raised, trimmed}
use Rattle.hv_expr.specs.Values.{text_of, text_value}
use Rattle.hv_seen.specs.declared.texts.Maker.{Maker}
use Rattle.hv_seen.specs.declared.texts.Maker.TheVariants as maker

abbrev pub made_value : Maker → SqlType → Value → Value
made_value maker.Cast kind v = converted v kind
made_value maker.Lower kind v = text_value (option_map lowered (text_of v))
made_value maker.Upper kind v = text_value (option_map raised (text_of v))
made_value maker.Trim kind v = text_value (option_map trimmed (text_of v))

-- a conversion to such a type may take memory
abbrev pub is_made : SqlType → Bool
is_made type.Str = true
is_made (type.ArrayOf e) = true
is_made _ = false
