use Rattle.hv_parse_stmt.proofs.Told.{one_statement_of}
use Rattle.hv_parse_stmt.proofs.laws.one_statement.Goals as goal

pub returns : goal.returns
returns c = one_statement_of
