use Rattle.hv_parse_stmt.proofs.Texts.{spelled_or_faulty}
use Rattle.hv_parse_stmt.proofs.laws.spelled_or_faulty.Goals as goal

pub returns : goal.returns
returns c = spelled_or_faulty
