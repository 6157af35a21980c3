use Rattle.hv_law_marks.proofs.Standing.{put-marks-stand}
use Rattle.hv_law_marks.proofs.laws.put_marks_stand.Goals as goal

pub returns : goal.returns
returns c = record { law = put-marks-stand }
