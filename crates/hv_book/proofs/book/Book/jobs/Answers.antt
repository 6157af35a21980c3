use Rattle.std.proofs.Common.{map, ap, ◌∙◌}
use Rattle.hv_history.specs.Book.{Kept}
use Rattle.hv_history.specs.State.{state_of}
use Rattle.hv_book.specs.Notes.{Notes}
use Rattle.hv_book.specs.Briefs.{brief_job}
use Rattle.hv_book.proofs.BookLaws.{follows}
use Rattle.hv_book.proofs.book.Book.jobs.Goals as goal

pub returns : goal.returns
returns c = record {
  jobs =
      c.as_slice.ensures.notes ∙ ap (λ (n : Notes). n.jobs) c.self.invariant.notes ∙ (follows c.self.inside.entries.items).jobs
      ∙ ap (λ (k : Kept). map brief_job (state_of k.entries).jobs) c.self.view_is;
}
