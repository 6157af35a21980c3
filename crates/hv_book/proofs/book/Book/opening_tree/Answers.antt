use Rattle.std.proofs.Common.{sym, ap, ◌∙◌}
use Rattle.hv_history.specs.Book.{Kept}
use Rattle.hv_history.specs.State.{state_of, numbered}
use Rattle.hv_book.specs.Notes.{Notes}
use Rattle.hv_book.specs.Briefs.{tree_in}
use Rattle.hv_book.specs.Said.{said_at}
use Rattle.hv_book.proofs.BookLaws.{tree-known, tree-unknown}
use Rattle.hv_book.proofs.book.Book.opening_tree.Goals as goal

pub returns-in-Some : goal.returns-in-Some
returns-in-Some c = record {
  tree =
      let place = c.in-Some.ensures ∙ ap (λ ps. numbered ps c.args.txn) (c.deref.ensures.value ∙ ap (λ (n : Notes). n.opened) c.self.invariant.notes) in
      c.tree.ensures.tree ∙ ap (λ (k : Kept). said_at k.entries c.in-Some.place.now) (sym c.self.view_is)
      ∙ tree-known c.self.inside.entries.items c.args.txn c.in-Some.place.now place
      ∙ ap (λ (k : Kept). tree_in (numbered (state_of k.entries).transactions c.args.txn)) c.self.view_is;
}

pub returns-in-None : goal.returns-in-None
returns-in-None c = record {
  tree =
      let place = c.in-None.ensures ∙ ap (λ ps. numbered ps c.args.txn) (c.deref.ensures.value ∙ ap (λ (n : Notes). n.opened) c.self.invariant.notes) in
      tree-unknown c.self.inside.entries.items c.args.txn place
      ∙ ap (λ (k : Kept). tree_in (numbered (state_of k.entries).transactions c.args.txn)) c.self.view_is;
}
