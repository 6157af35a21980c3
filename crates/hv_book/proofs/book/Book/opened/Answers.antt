use Rattle.std.proofs.Common.{sym, subst}
use Rattle.hv_history.specs.Book.{Kept}
use Rattle.hv_book.specs.Opened.{AreOpened}
use Rattle.hv_book.proofs.book.Book.opened.Goals as goal

pub returns : goal.returns
returns c = record {
  opened =
      subst (λ (k : Kept). AreOpened k.entries c.as_slice.result.now) c.self.view_is
      (subst (AreOpened c.self.inside.entries.items) (sym c.as_slice.ensures.value) c.self.invariant.opened);
}
