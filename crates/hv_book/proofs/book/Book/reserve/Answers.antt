use Rattle.std.proofs.Common.{map, sym, ap, ◌∙◌, arith, subst}
use Rattle.hv_book.specs.Said.{said_of_entry}
use Rattle.hv_history.specs.State.{state_of}
use Rattle.hv_book.specs.Notes.{Notes, notes_of}
use Rattle.hv_book.specs.Names.{IsNamed}
use Rattle.hv_book.specs.Opened.{AreOpened}
use Rattle.hv_book.specs.Past.{Past, IsPast, past_in}
use Rattle.hv_book.proofs.book.Book.reserve.Goals as goal

pub invariant_of-self-2 : goal.invariant_of-self-2
invariant_of-self-2 c = record {
  tree = c.in_ok-reserve-2.ensures.items ∙ c.self.invariant.tree ∙ ap (map said_of_entry) (sym c.in_ok-reserve.ensures.items);
  notes = c.reserve-6.ensures.notes ∙ c.self.invariant.notes ∙ ap notes_of (sym c.in_ok-reserve.ensures.items);
  opening =
      ap (λ kept. record { count = c.self.inside.openings.count; last = c.self.inside.openings.last; only_lost = c.self.inside.openings.only_lost; kept = kept }) c.in_ok-reserve-3.ensures.items
      ∙ c.self.invariant.opening ∙ ap (λ xs. (state_of xs).openings) (sym c.in_ok-reserve.ensures.items);
  opened =
      subst (λ xs. AreOpened xs c.reserve-6.new.self.opened.items) (sym c.in_ok-reserve.ensures.items)
      (subst (AreOpened c.self.inside.entries.items) (sym (ap (λ (n : Notes). n.opened) c.reserve-6.ensures.notes)) c.self.invariant.opened);
  spares = c.reserve-6.ensures.spares;
  entry_room = omega (arith, c.in_ok-reserve.ensures.len, c.in_ok-reserve.ensures.ok, c.in_ok-reserve.ensures.capacity, c.self.invariant.entry_room, c.reserve-6.ensures.limit);
  tree_room = omega (arith, c.in_ok-reserve-2.ensures.len, c.in_ok-reserve-2.ensures.ok, c.in_ok-reserve-2.ensures.capacity, c.self.invariant.tree_room, c.reserve-6.ensures.limit);
  kept_room = omega (arith, c.in_ok-reserve-3.ensures.len, c.in_ok-reserve-3.ensures.ok, c.in_ok-reserve-3.ensures.capacity, c.self.invariant.kept_room, c.reserve-6.ensures.limit);
  past =
      subst (λ (p : Past). IsPast c.reserve.new.self.items p) (sym c.in_ok-reserve-4.ensures.past)
      (subst (λ xs. IsPast xs (past_in c.self.inside.past)) (sym c.in_ok-reserve.ensures.items) c.self.invariant.past);
  past_room =
      let room = c.in_ok-reserve-4.ensures.spares c.self.inside.index.room c.self.invariant.past_room in
      let more = c.in_ok-reserve-4.ensures.enough in
      record {
        pending = omega (arith, more.pending, room.pending, c.reserve-6.ensures.limit);
        aborted = omega (arith, more.aborted, room.aborted, c.reserve-6.ensures.limit);
        committed = omega (arith, more.committed, room.committed, c.reserve-6.ensures.limit);
        forgotten = omega (arith, more.forgotten, room.forgotten, c.reserve-6.ensures.limit);
        given = omega (arith, more.given, room.given, c.reserve-6.ensures.limit);
        spans = omega (arith, more.spans, room.spans, c.reserve-6.ensures.limit);
        aborted_tables = omega (arith, more.aborted_tables, room.aborted_tables, c.reserve-6.ensures.limit);
        committed_tables = omega (arith, more.committed_tables, room.committed_tables, c.reserve-6.ensures.limit);
        given_tables = omega (arith, more.given_tables, room.given_tables, c.reserve-6.ensures.limit);
      };
  tabled = c.in_ok-reserve-4.ensures.tables c.self.invariant.tabled;
  named =
      subst (λ xs. IsNamed (state_of xs).tables c.reserve-5.new.self.items) (sym c.in_ok-reserve.ensures.items)
      (subst (IsNamed (state_of c.self.inside.entries.items).tables) (sym c.in_ok-reserve-5.ensures.items) c.self.invariant.named);
  name_room = omega (arith, c.in_ok-reserve-5.ensures.len, c.in_ok-reserve-5.ensures.ok, c.in_ok-reserve-5.ensures.capacity, c.self.invariant.name_room, c.reserve-6.ensures.limit);
}

pub invariant_of-self-in_err-reserve-4 : goal.invariant_of-self-in_err-reserve-4
invariant_of-self-in_err-reserve-4 c = record {
  tree = c.in_ok-reserve-2.ensures.items ∙ c.self.invariant.tree ∙ ap (map said_of_entry) (sym c.in_ok-reserve.ensures.items);
  notes = c.self.invariant.notes ∙ ap notes_of (sym c.in_ok-reserve.ensures.items);
  opening =
      ap (λ kept. record { count = c.self.inside.openings.count; last = c.self.inside.openings.last; only_lost = c.self.inside.openings.only_lost; kept = kept }) c.in_ok-reserve-3.ensures.items
      ∙ c.self.invariant.opening ∙ ap (λ xs. (state_of xs).openings) (sym c.in_ok-reserve.ensures.items);
  opened = subst (λ xs. AreOpened xs c.self.inside.index.opened.items) (sym c.in_ok-reserve.ensures.items) c.self.invariant.opened;
  spares = c.self.invariant.spares;
  entry_room = omega (arith, c.in_ok-reserve.ensures.len, c.in_ok-reserve.ensures.capacity, c.self.invariant.entry_room);
  tree_room = omega (arith, c.in_ok-reserve-2.ensures.len, c.in_ok-reserve-2.ensures.capacity, c.self.invariant.tree_room);
  kept_room = omega (arith, c.in_ok-reserve-3.ensures.len, c.in_ok-reserve-3.ensures.capacity, c.self.invariant.kept_room);
  past =
      subst (λ (p : Past). IsPast c.reserve.new.self.items p) (sym c.reserve-4.ensures.past)
      (subst (λ xs. IsPast xs (past_in c.self.inside.past)) (sym c.in_ok-reserve.ensures.items) c.self.invariant.past);
  past_room = c.reserve-4.ensures.spares c.self.inside.index.room c.self.invariant.past_room;
  tabled = c.reserve-4.ensures.tables c.self.invariant.tabled;
  named = subst (λ xs. IsNamed (state_of xs).tables c.self.inside.names.items) (sym c.in_ok-reserve.ensures.items) c.self.invariant.named;
  name_room = c.self.invariant.name_room;
}

pub invariant_of-self-in_err-reserve-5 : goal.invariant_of-self-in_err-reserve-5
invariant_of-self-in_err-reserve-5 c = record {
  tree = c.in_ok-reserve-2.ensures.items ∙ c.self.invariant.tree ∙ ap (map said_of_entry) (sym c.in_ok-reserve.ensures.items);
  notes = c.self.invariant.notes ∙ ap notes_of (sym c.in_ok-reserve.ensures.items);
  opening =
      ap (λ kept. record { count = c.self.inside.openings.count; last = c.self.inside.openings.last; only_lost = c.self.inside.openings.only_lost; kept = kept }) c.in_ok-reserve-3.ensures.items
      ∙ c.self.invariant.opening ∙ ap (λ xs. (state_of xs).openings) (sym c.in_ok-reserve.ensures.items);
  opened = subst (λ xs. AreOpened xs c.self.inside.index.opened.items) (sym c.in_ok-reserve.ensures.items) c.self.invariant.opened;
  spares = c.self.invariant.spares;
  entry_room = omega (arith, c.in_ok-reserve.ensures.len, c.in_ok-reserve.ensures.capacity, c.self.invariant.entry_room);
  tree_room = omega (arith, c.in_ok-reserve-2.ensures.len, c.in_ok-reserve-2.ensures.capacity, c.self.invariant.tree_room);
  kept_room = omega (arith, c.in_ok-reserve-3.ensures.len, c.in_ok-reserve-3.ensures.capacity, c.self.invariant.kept_room);
  past =
      subst (λ (p : Past). IsPast c.reserve.new.self.items p) (sym c.in_ok-reserve-4.ensures.past)
      (subst (λ xs. IsPast xs (past_in c.self.inside.past)) (sym c.in_ok-reserve.ensures.items) c.self.invariant.past);
  past_room = c.in_ok-reserve-4.ensures.spares c.self.inside.index.room c.self.invariant.past_room;
  tabled = c.in_ok-reserve-4.ensures.tables c.self.invariant.tabled;
  named =
      subst (λ xs. IsNamed (state_of xs).tables c.reserve-5.new.self.items) (sym c.in_ok-reserve.ensures.items)
      (subst (IsNamed (state_of c.self.inside.entries.items).tables) (sym c.reserve-5.ensures.items) c.self.invariant.named);
  name_room = omega (arith, c.reserve-5.ensures.len, c.reserve-5.ensures.capacity, c.self.invariant.name_room);
}
