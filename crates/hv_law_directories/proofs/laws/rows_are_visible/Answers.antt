use Rattle.hv_law_directories.proofs.VisibleLemmas.{rows-visible}
use Rattle.hv_law_directories.proofs.laws.rows_are_visible.Goals as goal

pub returns : goal.returns
returns c = record { law = rows-visible }
