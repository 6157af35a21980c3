use Rattle.std.proofs.Common.{sym, ap, ◌∙◌}
use Rattle.hv_history.specs.Book.{Kept}
use Rattle.hv_history.specs.State.{state_of, numbered}
use Rattle.hv_book.specs.Notes.{Notes}
use Rattle.hv_book.specs.Briefs.{session_at, session_in}
use Rattle.hv_book.proofs.BookLaws.{session-known, session-unknown}
use Rattle.hv_book.proofs.book.Book.session.Goals as goal

pub returns-in-Some : goal.returns-in-Some
returns-in-Some c = record {
  session =
      let place = c.in-Some.ensures ∙ ap (λ ps. numbered ps c.args.txn) (c.deref.ensures.value ∙ ap (λ (n : Notes). n.opened) c.self.invariant.notes) in
      c.session_at.ensures.session ∙ ap (λ (k : Kept). session_at k.entries c.in-Some.place.now) (sym c.self.view_is)
      ∙ session-known c.self.inside.entries.items c.args.txn c.in-Some.place.now place
      ∙ ap (λ (k : Kept). session_in (numbered (state_of k.entries).transactions c.args.txn)) c.self.view_is;
}

pub returns-in-None : goal.returns-in-None
returns-in-None c = record {
  session =
      let place = c.in-None.ensures ∙ ap (λ ps. numbered ps c.args.txn) (c.deref.ensures.value ∙ ap (λ (n : Notes). n.opened) c.self.invariant.notes) in
      session-unknown c.self.inside.entries.items c.args.txn place
      ∙ ap (λ (k : Kept). session_in (numbered (state_of k.entries).transactions c.args.txn)) c.self.view_is;
}
