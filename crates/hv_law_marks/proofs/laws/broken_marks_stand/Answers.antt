use Rattle.hv_law_marks.proofs.Standing.{broken-marks-stand, unread-marks-stand}
use Rattle.hv_law_marks.proofs.laws.broken_marks_stand.Goals as goal

pub returns : goal.returns
returns c = record { puts = broken-marks-stand; reads = unread-marks-stand }
