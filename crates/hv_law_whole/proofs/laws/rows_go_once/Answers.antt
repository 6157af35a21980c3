use Rattle.hv_law_whole.proofs.OnceLemmas.{rows-go-once}
use Rattle.hv_law_whole.proofs.laws.rows_go_once.Goals as goal

pub returns : goal.returns
returns c = record { law = rows-go-once }
