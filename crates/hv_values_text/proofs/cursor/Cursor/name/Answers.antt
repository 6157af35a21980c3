use Rattle.hv_lex.proofs.Runs.{word_ascii}
use Rattle.hv_values_text.proofs.cursor.Cursor.name.Goals as goal

pub lower_case-requires : goal.lower_case-requires
lower_case-requires c = word_ascii _ _ c.word_length-length.ensures
