use Rattle.hv_parse_query.proofs.Whole.{spelled_read}
use Rattle.hv_parse_query.proofs.laws.spelled_is_read.Goals as goal

pub returns : goal.returns
returns c = spelled_read
