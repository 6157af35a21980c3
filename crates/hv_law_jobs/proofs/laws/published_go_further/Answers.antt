use Rattle.hv_law_jobs.proofs.PublishLemmas.{published-go-further}
use Rattle.hv_law_jobs.proofs.laws.published_go_further.Goals as goal

pub returns : goal.returns
returns c = record { law = published-go-further }
