use Rattle.hv_law_marks.proofs.Standing.{marks-give-files}
use Rattle.hv_law_marks.proofs.laws.marks_give_files.Goals as goal

pub returns : goal.returns
returns c = record { law = marks-give-files }
