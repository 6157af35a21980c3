use Rattle.std.proofs.lemmas.List.{map-append}
use Rattle.std.proofs.Common.{ℕ, List, ◌+◌, ◌≤◌, ◌≡◌, ◌∷◌, [], ◌++◌, length, map, sym, ap, ◌∙◌, subst, arith}
use Rattle.hv_history.specs.Book.{Kept}
use Rattle.hv_history.specs.State.{State, Openings, state_of, openings_behind, after}
use Rattle.hv_book.specs.Notes.{Notes, notes_of, noted}
use Rattle.hv_book.specs.Index.{notes_in}
use Rattle.hv_book.specs.Said.{said_of_entry}
use Rattle.hv_book.specs.Names.{IsNamed, IsNamePlace}
use Rattle.hv_book.specs.Opened.{AreOpened}
use Rattle.hv_book.specs.Past.{Past, PastSpares, IsPast, past_in, past_behind}
use Rattle.std.proofs.lemmas.List.{length-map}
use Rattle.hv_book.specs.Briefs.{brief_table}
use Rattle.hv_book.proofs.NameLaws.{names-next}
use Rattle.hv_book.proofs.OpenedLaws.{opened-next}
use Rattle.hv_book.proofs.PastLaws.{past-next}
use Rattle.hv_book.proofs.BookLaws.{follows, high-below, boots-below, notes_of-snoc, state_of-snoc, AreBelow}
use Rattle.hv_book.proofs.book.Book.put_said.Goals as goal

pub note-requires-clause-below : goal.note-requires-clause-below
note-requires-clause-below c =
    subst (λ n. AreBelow n c.self.inside.index.tables.items) (ap length (sym c.as_slice.ensures.value))
    (subst (λ (n : Notes). AreBelow (length c.self.inside.entries.items) n.tables) (sym c.self.invariant.notes) (high-below c.self.inside.entries.items))

pub note-requires-2-clause-below : goal.note-requires-2-clause-below
note-requires-2-clause-below c =
    subst (λ n. AreBelow n c.self.inside.index.tables.items) (ap length (sym c.as_slice.ensures.value))
    (subst (λ (n : Notes). AreBelow (length c.self.inside.entries.items) n.tables) (sym c.self.invariant.notes) (high-below c.self.inside.entries.items))

pub note-requires-3-clause-below : goal.note-requires-3-clause-below
note-requires-3-clause-below c =
    let most = boots-below c.self.inside.entries.items in
    let same = ap (λ (o : Openings). o.count) c.self.invariant.opening in
    let place = ap length c.as_slice.ensures.value in
    omega (arith, most, same, place)

pub name_place-at-requires : goal.name_place-at-requires
name_place-at-requires c = record {
  named =
      subst (λ (k : Kept). IsNamed (state_of k.entries).tables c.deref.result.now) c.self.view_is
      (subst (IsNamed (state_of c.self.inside.entries.items).tables) (sym c.deref.ensures.value) c.self.invariant.named);
}

pub note-requires-clause-count : goal.note-requires-clause-count
note-requires-clause-count c =
    let xs = c.self.inside.entries.items in
    ap (λ (n : Notes). length n.tables) c.self.invariant.notes
    ∙ ap length (follows xs).tables ∙ length-map (state_of xs).tables brief_table ∙ sym c.self.invariant.past.count

pub invariant_of-self : goal.invariant_of-self
invariant_of-self c =
    let xs = c.self.inside.entries.items in
    let place : length c.as_slice.result.now ≡ length xs = ap length c.as_slice.ensures.value in
    record {
      tree =
          c.append-2.ensures.items ∙ ap (λ ts. ts ++ c.kept-light.result ∷ []) c.self.invariant.tree
          ∙ ap (λ t. map said_of_entry xs ++ t ∷ []) (c.kept-light.ensures ∙ c.requires.tree)
          ∙ sym (map-append said_of_entry xs (c.args.entry ∷ [])) ∙ ap (map said_of_entry) (sym c.append.ensures.items);
      notes =
          c.note-2.ensures.notes ∙ ap (noted (length c.as_slice.result.now) c.args.entry) c.self.invariant.notes
          ∙ ap (λ n. noted n c.args.entry (notes_of xs)) place ∙ sym (notes_of-snoc xs c.args.entry) ∙ ap notes_of (sym c.append.ensures.items);
      opening =
          c.note-3.ensures.openings ∙ ap (openings_behind (length c.as_slice.result.now) c.args.entry) c.self.invariant.opening
          ∙ ap (λ n. openings_behind n c.args.entry (state_of xs).openings) (place ∙ sym (follows xs).entries)
          ∙ ap (λ (s : State). s.openings) (sym (state_of-snoc xs c.args.entry)) ∙ ap (λ ys. (state_of ys).openings) (sym c.append.ensures.items);
      opened =
          subst (λ ys. AreOpened ys c.note-2.new.self.opened.items) (sym c.append.ensures.items)
          (subst (AreOpened (xs ++ c.args.entry ∷ [])) (sym (ap (λ (n : Notes). n.opened) c.note-2.ensures.notes))
          (subst (λ n. AreOpened (xs ++ c.args.entry ∷ []) (noted n c.args.entry (notes_in c.self.inside.index)).opened) (sym place)
          (opened-next xs c.args.entry (notes_in c.self.inside.index) c.self.invariant.opened)));
      spares = c.note-2.ensures.spares;
      entry_room = omega (arith, c.append.ensures.len, c.append.ensures.capacity, c.note-2.ensures.room, c.self.invariant.entry_room, c.requires.room, ap (λ (k : Kept). k.spare) c.self.view_is);
      tree_room = omega (arith, c.append-2.ensures.len, c.append-2.ensures.capacity, c.note-2.ensures.room, c.self.invariant.tree_room, c.requires.room, ap (λ (k : Kept). k.spare) c.self.view_is);
      kept_room = omega (arith, c.note-3.ensures.len, c.note-3.ensures.capacity, c.note-2.ensures.room, c.self.invariant.kept_room, c.requires.room, ap (λ (k : Kept). k.spare) c.self.view_is);
      past =
          subst (λ (p : Past). IsPast c.append.new.items.items p) (sym c.note.ensures.past)
          (subst (λ ys. IsPast ys (past_behind (length c.as_slice.result.now) (notes_in c.self.inside.index) c.args.entry (past_in c.self.inside.past))) (sym c.append.ensures.items)
          (subst (λ n. IsPast (xs ++ c.args.entry ∷ []) (past_behind n (notes_in c.self.inside.index) c.args.entry (past_in c.self.inside.past))) (sym place)
          (subst (λ (n : Notes). IsPast (xs ++ c.args.entry ∷ []) (past_behind (length xs) n c.args.entry (past_in c.self.inside.past))) (sym c.self.invariant.notes)
          (past-next xs c.args.entry (past_in c.self.inside.past) c.self.invariant.past))));
      past_room = subst (λ n. PastSpares n c.note.new.self) (omega (arith, c.note-2.ensures.room)) c.note.ensures.spares;
      tabled = c.note.ensures.tables;
      named =
          let tables : length c.as_slice-2.result.now ≡ length (state_of xs).tables =
          ap length (c.as_slice-2.ensures.value ∙ ap (λ (n : Notes). n.tables) c.self.invariant.notes ∙ (follows xs).tables) ∙ length-map (state_of xs).tables brief_table
          in
          subst (λ ys. IsNamed (state_of ys).tables c.note_names.new.numbers.items) (sym c.append.ensures.items)
          (subst (λ (s : State). IsNamed s.tables c.note_names.new.numbers.items) (sym (state_of-snoc xs c.args.entry))
          (subst (IsNamed (after (state_of xs) c.args.entry).tables) (sym c.note_names.ensures.numbers)
          (names-next (state_of xs) c.args.entry c.self.inside.names.items c.name_place-at.result (length c.as_slice-2.result.now + 1) c.self.invariant.named
          (subst (λ (ns : List ℕ). c.name_place-at.result ≤ length ns) c.deref.ensures.value c.name_place-at.ensures.bound)
          (ap (λ n. n + 1) tables)
          (subst (λ (k : Kept). IsNamePlace (state_of k.entries) c.self.inside.names.items c.args.entry c.name_place-at.result) (sym c.self.view_is)
          (subst (λ (ns : List ℕ). IsNamePlace (state_of c.args.self.now.entries) ns c.args.entry c.name_place-at.result) c.deref.ensures.value c.name_place-at.ensures.place)))));
      name_room = omega (arith, c.note_names.ensures.len, c.note_names.ensures.capacity, c.note-2.ensures.room, c.self.invariant.name_room, c.requires.room, ap (λ (k : Kept). k.spare) c.self.view_is);
    }
