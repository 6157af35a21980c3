use Rattle.hv_law_directories.proofs.ReadingLemmas.{can-be-read}
use Rattle.hv_law_directories.proofs.laws.files_can_be_read.Goals as goal

pub returns : goal.returns
returns c = record { law = can-be-read }
