use Rattle.std.proofs.Common.{◌+◌, length, sym, ap, ◌∙◌, subst, arith}
use Rattle.std.specs.List.{AllByRecursion}
use Rattle.hv_ids.specs.declared.notes.IdNote.{IdNote}
use Rattle.hv_book.specs.Past.{IsTableThere}
use Rattle.hv_book.proofs.IdLaws.{number-there, put-length, put-all}
use Rattle.hv_book.proofs.past.PastNotes.note_given.Goals as goal

pub returns-in-Some-clause-spares : goal.returns-in-Some-clause-spares
returns-in-Some-clause-spares c =
    let more = ap length c.add.ensures.ids in
    let long = put-length (record { table = c.args.table; write = c.in-Some.note.now.high + 1; txn = c.args.txn }) c.args.self.now.pending.ids in
    let spares = c.requires.spares in
    record {
      pending = omega (arith, spares.pending, c.add.ensures.room);
      aborted = omega (arith, spares.aborted, more, long, c.requires.room);
      committed = omega (arith, spares.committed, more, long, c.requires.room);
      given = omega (arith, spares.given, c.add-in-Some.ensures.room);
      forgotten = omega (arith, spares.forgotten);
      spans = omega (arith, spares.spans);
      aborted_tables = omega (arith, spares.aborted_tables);
      committed_tables = omega (arith, spares.committed_tables);
      given_tables = omega (arith, spares.given_tables, c.add-in-Some.ensures.table_room);
    }

pub returns-in-Some-clause-tables : goal.returns-in-Some-clause-tables
returns-in-Some-clause-tables c =
    let id : IdNote = record { table = c.args.table; write = c.in-Some.note.now.high + 1; txn = c.args.txn } in
    let there = number-there c.deref.result.now c.args.table c.in-Some.note.now (sym c.in-Some.ensures) in
    let tables = ap length c.deref.ensures.value ∙ c.requires.count in
    record {
      aborted = c.requires.tables.aborted;
      committed = c.requires.tables.committed;
      given = c.add-in-Some.ensures.tables ∙ c.requires.tables.given;
      there =
          subst (AllByRecursion (IsTableThere (length c.args.self.now.spans.items))) (sym c.add.ensures.ids)
          (put-all (IsTableThere (length c.args.self.now.spans.items)) id c.args.self.now.pending.ids (there.0, omega (arith, there.1, tables)) c.requires.tables.there);
    }
