use Rattle.std.proofs.Common.{◌≡◌, ◌⊎◌, ℕ, List}
use Rattle.std.specs.Prelude.{MatchResult}
use Rattle.hv_history.specs.declared.entry.Entry.{Entry}
use Rattle.hv_recovery.specs.declared.fault.OpenFault.TheVariants.{BadJournal}
use Rattle.hv_recovery.specs.Recovery.{IsJournalOf, IsBadJournalAt, IsNoAnswer}
use Rattle.hv_recovery.proofs.Books.{answer_only, answer_named, tells_by}
use Rattle.hv_recovery.proofs.reading.read_journal.Goals as goal

pub returns-clause-only : goal.returns-clause-only
returns-clause-only g c =
    tells_by (g.D.Shelf.told c.args.shelf.now) c.in_ok-bytes.bytes.items c.deref.result.now
    (λ (journal : List ℕ). (book : List Entry) → IsJournalOf c.args.limits.now book journal → MatchResult c.read_book.result (λ x. x.0.entries ≡ book) IsNoAnswer)
    c.deref.ensures.value c.in_ok-bytes.ensures.whole
    (answer_only c.read_book.result (λ x. x.0.entries) c.args.limits.now c.deref.result.now c.read_book.ensures.found c.read_book.ensures.bad)

pub returns-clause-named : goal.returns-clause-named
returns-clause-named g c =
    tells_by (g.D.Shelf.told c.args.shelf.now) c.in_ok-bytes.bytes.items c.deref.result.now
    (λ (journal : List ℕ). (at : ℕ) → IsBadJournalAt c.args.limits.now journal at → MatchResult c.read_book.result (λ x. ⊥) (λ e. (e ≡ BadJournal at) ⊎ IsNoAnswer e))
    c.deref.ensures.value c.in_ok-bytes.ensures.whole
    (answer_named c.read_book.result (λ x. x.0.entries) c.args.limits.now c.deref.result.now c.read_book.ensures.found c.read_book.ensures.bad)
