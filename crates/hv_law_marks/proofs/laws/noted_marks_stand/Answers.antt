use Rattle.hv_law_marks.proofs.Standing.{noted-marks-stand}
use Rattle.hv_law_marks.proofs.laws.noted_marks_stand.Goals as goal

pub returns : goal.returns
returns c = record { law = noted-marks-stand }
