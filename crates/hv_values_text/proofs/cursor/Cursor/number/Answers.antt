use Rattle.hv_lex.proofs.Figures.{digits_front}
use Rattle.hv_values_text.proofs.cursor.Cursor.number.Goals as goal

pub small_value-requires : goal.small_value-requires
small_value-requires c = digits_front _ _ c.digits_length-length.ensures
