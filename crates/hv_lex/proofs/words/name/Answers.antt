use Rattle.hv_lex.proofs.Runs.{name_ascii}
use Rattle.hv_lex.proofs.words.name.Goals as goal

pub lower_case-requires : goal.lower_case-requires
lower_case-requires c = name_ascii _ _ c.unprintable.ensures c.in-None.is
