use Rattle.hv_trail.proofs.MarkLaws.{woven, whole-book, whole-marks}
use Rattle.hv_trail.proofs.marks.book_and_marks_are_the_trail.Goals as goal

pub returns : goal.returns
returns c = record { whole = woven; opened = whole-book; opened_marks = whole-marks }
