use Rattle.hv_law_visible.proofs.ReaderLemmas.{since-commit}
use Rattle.hv_law_visible.proofs.laws.stays_since.Goals as goal

pub returns : goal.returns
returns g c = record { law = since-commit }
