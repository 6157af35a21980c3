use Rattle.std.proofs.Common.{ap, ◌∙◌}
use Rattle.hv_history.specs.Book.{Kept}
use Rattle.hv_history.specs.State.{state_of, numbered}
use Rattle.hv_book.specs.Notes.{Notes}
use Rattle.hv_book.specs.Briefs.{held_by, given_at}
use Rattle.hv_book.proofs.BookLaws.{follows}
use Rattle.hv_book.proofs.book.Book.held.Goals as goal

pub returns : goal.returns
returns c = record {
  held = λ k.
      ap (held_by k) (c.as_slice.ensures.value ∙ ap (λ (n : Notes). n.held) c.self.invariant.notes)
      ∙ (follows c.self.inside.entries.items).held k
      ∙ ap (λ (kept : Kept). given_at (numbered (state_of kept.entries).transactions k)) c.self.view_is;
}
