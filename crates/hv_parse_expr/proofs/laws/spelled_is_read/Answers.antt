use Rattle.hv_parse_expr.proofs.Told.{spelled_read}
use Rattle.hv_parse_expr.proofs.laws.spelled_is_read.Goals as goal

pub returns : goal.returns
returns c = spelled_read
