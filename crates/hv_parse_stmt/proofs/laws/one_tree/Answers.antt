use Rattle.hv_parse_stmt.proofs.Texts.{one_tree_of}
use Rattle.hv_parse_stmt.proofs.laws.one_tree.Goals as goal

pub returns : goal.returns
returns c = one_tree_of
