use Rattle.std.proofs.Common.{[], ◌∷◌, ◌∙◌}
use Rattle.hv_trail.specs.declared.trail.TrailItem.TheVariants as item
use Rattle.hv_trail.specs.Trail.{book_of}
use Rattle.hv_trail.proofs.LastingLaws.{book-append}
use Rattle.hv_trail.proofs.MarkLaws.{mark-added, entry-marks, mark-book}
use Rattle.hv_trail.proofs.marks.items_count_once.Goals as goal

pub returns : goal.returns
returns c = record {
  entry = λ trail event. book-append trail (item.Noted event ∷ []);
  entry_marks = entry-marks;
  mark = mark-added;
  mark_book = λ trail mark. book-append trail (item.Marked mark ∷ []) ∙ mark-book (book_of trail);
}
