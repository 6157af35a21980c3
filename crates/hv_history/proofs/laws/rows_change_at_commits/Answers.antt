use Rattle.hv_history.proofs.StateLaws.{rows-change_at_commits}
use Rattle.hv_history.proofs.laws.rows_change_at_commits.Goals as goal

pub returns : goal.returns
returns c = record { law = rows-change_at_commits }
