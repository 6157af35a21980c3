use Rattle.std.proofs.Common.{sym, ap, ◌∙◌, subst}
use Rattle.std.specs.List.{list_any}
use Rattle.hv_history.specs.Book.{Kept}
use Rattle.hv_history.specs.State.{state_of}
use Rattle.hv_book.specs.Notes.{Notes}
use Rattle.hv_book.specs.Commits.{commits_so, passes_at, IsRising}
use Rattle.hv_book.proofs.BookLaws.{follows}
use Rattle.hv_book.proofs.book.Book.commits.Goals as goal

pub returns : goal.returns
returns c =
    let places = c.as_slice.ensures.value ∙ ap (λ (n : Notes). n.commits) c.self.invariant.notes in
    record {
      commits = λ passes.
          ap (λ (k : Kept). list_any (commits_so passes) (state_of k.entries).transactions) (sym c.self.view_is)
          ∙ (follows c.self.inside.entries.items).commits.same passes
          ∙ ap (list_any (passes_at passes c.self.inside.entries.items)) (sym places)
          ∙ ap (λ (k : Kept). list_any (passes_at passes k.entries) c.as_slice.result.now) c.self.view_is;
      rising = subst IsRising (sym places) (follows c.self.inside.entries.items).commits.rising;
    }
