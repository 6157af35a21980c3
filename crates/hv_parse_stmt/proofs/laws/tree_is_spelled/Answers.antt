use Rattle.hv_parse_stmt.proofs.Texts.{tree_spelled}
use Rattle.hv_parse_stmt.proofs.laws.tree_is_spelled.Goals as goal

pub returns : goal.returns
returns c = tree_spelled
