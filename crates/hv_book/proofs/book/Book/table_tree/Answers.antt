use Rattle.std.proofs.Common.{sym, ap, ◌∙◌}
use Rattle.hv_history.specs.Book.{Kept}
use Rattle.hv_history.specs.State.{state_of, numbered, created_shape}
use Rattle.hv_book.specs.Notes.{Notes}
use Rattle.hv_book.specs.Briefs.{text_tree}
use Rattle.hv_book.specs.Said.{said_text}
use Rattle.hv_book.proofs.BookLaws.{shape-known, shape-unknown}
use Rattle.hv_book.proofs.SaidLaws.{said-where, created-said}
use Rattle.hv_book.proofs.book.Book.table_tree.Goals as goal

pub returns-in-Some : goal.returns-in-Some
returns-in-Some c = record {
  shape = λ t is.
      let text = c.in-Some.ensures ∙ ap (λ ps. numbered ps c.args.table) (c.deref.ensures.value ∙ ap (λ (n : Notes). n.texts) c.self.invariant.notes) in
      let there = ap (λ (k : Kept). numbered (state_of k.entries).tables c.args.table) c.self.view_is ∙ is in
      shape-known c.self.inside.entries.items c.args.table c.in-Some.text.now t text there
      ∙ sym (created-said (text_tree c.self.inside.entries.items c.in-Some.text.now))
      ∙ ap created_shape (sym (said-where c.self.inside.entries.items c.in-Some.text.now))
      ∙ ap (λ (k : Kept). created_shape (said_text k.entries c.in-Some.text.now)) c.self.view_is
      ∙ ap created_shape (sym c.text_tree.ensures.tree);
}

pub returns-in-None : goal.returns-in-None
returns-in-None c = record {
  shape = λ t is.
      let text = c.in-None.ensures ∙ ap (λ ps. numbered ps c.args.table) (c.deref.ensures.value ∙ ap (λ (n : Notes). n.texts) c.self.invariant.notes) in
      let there = ap (λ (k : Kept). numbered (state_of k.entries).tables c.args.table) c.self.view_is ∙ is in
      shape-unknown c.self.inside.entries.items c.args.table t text there;
}
