use Rattle.hv_route.proofs.StandingLemmas.{files-have-rows, files-have-records}
use Rattle.hv_route.proofs.laws.files_have_rows.Goals as goal

pub returns : goal.returns
returns c = record { rows = files-have-rows; records = files-have-records }
