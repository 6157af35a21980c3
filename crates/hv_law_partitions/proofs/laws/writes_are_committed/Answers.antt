use Rattle.hv_law_partitions.proofs.CommitLemmas.{writes-committed}
use Rattle.hv_law_partitions.proofs.laws.writes_are_committed.Goals as goal

pub returns : goal.returns
returns c = record { law = writes-committed }
