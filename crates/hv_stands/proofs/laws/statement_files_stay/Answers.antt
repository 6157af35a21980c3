use Rattle.hv_stands.proofs.KeptFiles.{put-files-stay, new-ids-others, earlier-ids-kept}
use Rattle.hv_stands.proofs.laws.statement_files_stay.Goals as goal

pub returns : goal.returns
returns c = record { stay = put-files-stay; new = new-ids-others; earlier = earlier-ids-kept }
