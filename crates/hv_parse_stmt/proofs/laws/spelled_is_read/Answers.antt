use Rattle.hv_parse_stmt.proofs.Told.{spelled_read}
use Rattle.hv_parse_stmt.proofs.laws.spelled_is_read.Goals as goal

pub returns : goal.returns
returns c = spelled_read
