use Rattle.hv_parse_expr.proofs.Told.{read_spelled}
use Rattle.hv_parse_expr.proofs.laws.read_is_spelled.Goals as goal

pub returns : goal.returns
returns c = read_spelled
