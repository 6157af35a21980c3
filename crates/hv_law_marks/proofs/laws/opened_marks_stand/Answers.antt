use Rattle.hv_law_marks.proofs.Standing.{opened-marks-stand}
use Rattle.hv_law_marks.proofs.laws.opened_marks_stand.Goals as goal

pub returns : goal.returns
returns c = record { law = opened-marks-stand }
