use Rattle.std.proofs.Common.{map, ap, ◌∙◌}
use Rattle.hv_history.specs.Book.{Kept}
use Rattle.hv_history.specs.State.{state_of}
use Rattle.hv_book.specs.Notes.{Notes}
use Rattle.hv_book.specs.Briefs.{brief}
use Rattle.hv_book.proofs.BookLaws.{follows}
use Rattle.hv_book.proofs.book.Book.transactions.Goals as goal

pub returns : goal.returns
returns c = record {
  transactions =
      c.as_slice.ensures.value ∙ ap (λ (n : Notes). n.transactions) c.self.invariant.notes ∙ (follows c.self.inside.entries.items).transactions
      ∙ ap (λ (k : Kept). map brief (state_of k.entries).transactions) c.self.view_is;
}
