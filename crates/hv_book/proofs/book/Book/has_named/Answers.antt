use Rattle.std.proofs.Common.{sym, subst}
use Rattle.hv_history.specs.Book.{Kept}
use Rattle.hv_history.specs.State.{state_of}
use Rattle.hv_book.specs.Names.{IsNamed}
use Rattle.hv_book.proofs.book.Book.has_named.Goals as goal

pub has_named-requires : goal.has_named-requires
has_named-requires c = record {
  named =
      subst (λ (k : Kept). IsNamed (state_of k.entries).tables c.deref.result.now) c.self.view_is
      (subst (IsNamed (state_of c.self.inside.entries.items).tables) (sym c.deref.ensures.value) c.self.invariant.named);
}
