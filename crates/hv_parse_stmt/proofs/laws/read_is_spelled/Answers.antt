use Rattle.hv_parse_stmt.proofs.Spelled.{read_spelled}
use Rattle.hv_parse_stmt.proofs.laws.read_is_spelled.Goals as goal

pub returns : goal.returns
returns c = read_spelled
