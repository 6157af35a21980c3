use Rattle.hv_parse_expr.proofs.Told.{types_exact}
use Rattle.hv_parse_expr.proofs.laws.types_are_exact.Goals as goal

pub returns : goal.returns
returns c = types_exact
