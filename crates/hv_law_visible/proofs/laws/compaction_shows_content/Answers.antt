use Rattle.hv_law_visible.proofs.ReaderLemmas.{compaction-rows}
use Rattle.hv_law_visible.proofs.laws.compaction_shows_content.Goals as goal

pub returns : goal.returns
returns g c = record { law = compaction-rows }
