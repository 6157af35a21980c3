use Rattle.hv_law_filed.proofs.NewIds.{new-ids-bare}
use Rattle.hv_law_filed.proofs.Commits.{files-put}
use Rattle.hv_law_filed.proofs.laws.files_are_put.Goals as goal

pub returns : goal.returns
returns c = record { bare = new-ids-bare; law = files-put }
