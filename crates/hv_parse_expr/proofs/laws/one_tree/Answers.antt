use Rattle.hv_parse_expr.proofs.Told.{one_tree_at}
use Rattle.hv_parse_expr.proofs.laws.one_tree.Goals as goal

pub returns : goal.returns
returns c = one_tree_at
