use Rattle.hv_law_dues.proofs.Stood.{files-counted}
use Rattle.hv_law_dues.proofs.WantedStood.{wanted-files-counted}
use Rattle.hv_law_dues.proofs.laws.files_are_counted.Goals as goal

pub returns : goal.returns
returns c = record { law = files-counted; wanted = wanted-files-counted }
