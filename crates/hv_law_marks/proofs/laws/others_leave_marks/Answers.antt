use Rattle.hv_law_marks.proofs.Marks.{unbroken-stays}
use Rattle.hv_law_marks.proofs.Standing.{put-stays}
use Rattle.hv_law_marks.proofs.laws.others_leave_marks.Goals as goal

pub returns : goal.returns
returns c = record { unbroken = unbroken-stays; put = put-stays }
