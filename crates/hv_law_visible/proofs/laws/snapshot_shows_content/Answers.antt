use Rattle.hv_law_visible.proofs.ReaderLemmas.{snapshot-rows}
use Rattle.hv_law_visible.proofs.laws.snapshot_shows_content.Goals as goal

pub returns : goal.returns
returns g c = record { law = snapshot-rows }
