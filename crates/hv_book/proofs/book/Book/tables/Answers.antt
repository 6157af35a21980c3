use Rattle.std.proofs.Common.{map, ap, ◌∙◌}
use Rattle.hv_history.specs.Book.{Kept}
use Rattle.hv_history.specs.State.{state_of}
use Rattle.hv_book.specs.Notes.{Notes}
use Rattle.hv_book.specs.Briefs.{brief_table}
use Rattle.hv_book.proofs.BookLaws.{follows}
use Rattle.hv_book.proofs.book.Book.tables.Goals as goal

pub returns : goal.returns
returns c = record {
  tables =
      c.as_slice.ensures.value ∙ ap (λ (n : Notes). n.tables) c.self.invariant.notes ∙ (follows c.self.inside.entries.items).tables
      ∙ ap (λ (k : Kept). map brief_table (state_of k.entries).tables) c.self.view_is;
}
