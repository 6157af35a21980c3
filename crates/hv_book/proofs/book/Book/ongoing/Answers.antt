use Rattle.std.proofs.Common.{map, ap, ◌∙◌}
use Rattle.hv_history.specs.Book.{Kept}
use Rattle.hv_history.specs.State.{state_of}
use Rattle.hv_book.specs.Notes.{Notes}
use Rattle.hv_book.specs.Briefs.{brief, open_from}
use Rattle.hv_book.proofs.BookLaws.{follows}
use Rattle.hv_book.proofs.book.Book.ongoing.Goals as goal

pub returns : goal.returns
returns c = record {
  ongoing =
      c.as_slice.ensures.value ∙ ap (λ (n : Notes). n.ongoing) c.self.invariant.notes ∙ (follows c.self.inside.entries.items).ongoing
      ∙ ap (open_from 1) (follows c.self.inside.entries.items).transactions
      ∙ ap (λ (k : Kept). open_from 1 (map brief (state_of k.entries).transactions)) c.self.view_is;
}
