use Rattle.std.proofs.Common.{sym, ap, ◌∙◌}
use Rattle.hv_history.specs.Book.{Kept}
use Rattle.hv_history.specs.State.{state_of, numbered}
use Rattle.hv_book.specs.Notes.{Notes}
use Rattle.hv_book.specs.Commits.{touches_by, wrote_in}
use Rattle.hv_book.proofs.BookLaws.{wrote-known, wrote-unknown}
use Rattle.hv_book.proofs.book.Book.committed.Goals as goal

pub returns-in-Some : goal.returns-in-Some
returns-in-Some c = record {
  wrote =
      let note = c.in-Some.ensures ∙ ap (λ ns. numbered ns c.args.txn) (c.deref.ensures.value ∙ ap (λ (n : Notes). n.transactions) c.self.invariant.notes) in
      c.touches_by.ensures.touches ∙ ap (λ (k : Kept). touches_by k.entries c.in-Some.note.now.ending) (sym c.self.view_is)
      ∙ wrote-known c.self.inside.entries.items c.args.txn c.in-Some.note.now note
      ∙ ap (λ (k : Kept). wrote_in (numbered (state_of k.entries).transactions c.args.txn)) c.self.view_is;
}

pub returns-in-None : goal.returns-in-None
returns-in-None c = record {
  wrote =
      let note = c.in-None.ensures ∙ ap (λ ns. numbered ns c.args.txn) (c.deref.ensures.value ∙ ap (λ (n : Notes). n.transactions) c.self.invariant.notes) in
      wrote-unknown c.self.inside.entries.items c.args.txn note
      ∙ ap (λ (k : Kept). wrote_in (numbered (state_of k.entries).transactions c.args.txn)) c.self.view_is;
}
