use Rattle.std.proofs.Common.{◌≤◌, Some, ◌∙◌, sym, ap, List, map, subst, length}
use Rattle.std.specs.Option.{option_copied}
use Rattle.hv_history.specs.declared.entry.Entry.{Entry}
use Rattle.hv_history.specs.State.{state_of, numbered}
use Rattle.hv_book.specs.Briefs.{brief_table}
use Rattle.hv_house.specs.House.{entries_of}
use Rattle.hv_house.proofs.Beginning.{next-some, next-none, next-few}
use Rattle.hv_house.proofs.house.House.next_write.Goals as goal

pub next_id-requires : goal.next_id-requires
next_id-requires g c = record {
  few =
      subst (λ (entries : List Entry). c.in-Some.note.now.high ≤ length entries) (sym c.entries.ensures.entries)
      (next-few c.book-book.result.now.entries c.args.table.0 c.in-Some.note.now
      (sym (ap option_copied c.in-Some.is) ∙ c.numbered.ensures ∙ ap (λ notes. numbered notes c.args.table.0) c.tables.ensures.tables));
}

pub returns-in-Some : goal.returns-in-Some
returns-in-Some g c = record {
  next =
      ap Some c.next_id.ensures.next
      ∙ next-some (state_of (entries_of c.args.self.now)).tables c.args.table.0 c.in-Some.note.now
      (sym (ap option_copied c.in-Some.is) ∙ c.numbered.ensures
      ∙ ap (λ notes. numbered notes c.args.table.0) (c.tables.ensures.tables ∙ ap (λ (b : List Entry). map brief_table (state_of b).tables) c.book-book.ensures.entries));
}

pub returns-in-None : goal.returns-in-None
returns-in-None g c = record {
  next = next-none (state_of (entries_of c.args.self.now)).tables c.args.table.0
      (sym (ap option_copied c.in-None.is) ∙ c.numbered.ensures
      ∙ ap (λ notes. numbered notes c.args.table.0) (c.tables.ensures.tables ∙ ap (λ (b : List Entry). map brief_table (state_of b).tables) c.book-book.ensures.entries));
}
