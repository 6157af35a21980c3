use Rattle.std.proofs.Common.{[], map, sym, ap, ◌∙◌, arith, subst}
use Rattle.hv_book.specs.Said.{said_of_entry}
use Rattle.hv_history.specs.State.{state_of}
use Rattle.hv_book.specs.Notes.{Notes, notes_of}
use Rattle.hv_book.specs.Names.{IsNamed}
use Rattle.hv_book.specs.Opened.{AreOpened}
use Rattle.hv_book.proofs.NameLaws.{names-none}
use Rattle.hv_book.proofs.OpenedLaws.{opened-none}
use Rattle.hv_book.specs.Past.{Past, PastSpares, IsPast, no_past}
use Rattle.hv_book.proofs.PastLaws.{past-none}
use Rattle.hv_book.proofs.book.Book.new.Goals as goal

pub invariant_of-result : goal.invariant_of-result
invariant_of-result c = record {
  tree = c.new-2.ensures.items ∙ ap (map said_of_entry) (sym c.new.ensures.items);
  notes = c.new-3.ensures.notes ∙ ap notes_of (sym c.new.ensures.items);
  opening = c.new-4.ensures.openings ∙ ap (λ xs. (state_of xs).openings) (sym c.new.ensures.items);
  opened =
      subst (λ xs. AreOpened xs c.new-3.result.opened.items) (sym c.new.ensures.items)
      (subst (AreOpened []) (sym (ap (λ (n : Notes). n.opened) c.new-3.ensures.notes)) opened-none);
  spares = c.new-3.ensures.spares;
  entry_room = omega (arith, c.new.ensures.len, c.new-3.ensures.room);
  tree_room = omega (arith, c.new-2.ensures.len, c.new-3.ensures.room);
  kept_room = omega (arith, c.new-4.ensures.len, c.new-3.ensures.room);
  past =
      subst (λ (p : Past). IsPast c.new.result.items p) (sym c.new-5.ensures.past)
      (subst (λ xs. IsPast xs no_past) (sym c.new.ensures.items) past-none);
  past_room = subst (λ n. PastSpares n c.new-5.result) (sym c.new-3.ensures.room) c.new-5.ensures.spares;
  tabled = c.new-5.ensures.tables;
  named =
      subst (λ xs. IsNamed (state_of xs).tables c.new-6.result.items) (sym c.new.ensures.items)
      (subst (IsNamed []) (sym c.new-6.ensures.items) names-none);
  name_room = omega (arith, c.new-6.ensures.len, c.new-3.ensures.room);
}
