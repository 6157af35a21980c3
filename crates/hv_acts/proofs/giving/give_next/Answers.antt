use Rattle.std.proofs.Common.{Ok, Err, subst}
use Rattle.hv_base.specs.declared.ids.WriteId.{WriteId}
use Rattle.hv_history.specs.declared.entry.Entry.TheVariants as entry
use Rattle.hv_acts.specs.Answers.{own_entry, EntryStep}
use Rattle.hv_acts.proofs.Gives.{give-done, give-refused}
use Rattle.hv_acts.proofs.giving.give_next.Goals as goal

pub returns-in-Ok : goal.returns-in-Ok
returns-in-Ok g c = record {
  given =
      give-done g.D.Shelf.told g.D.Shelf.faults c.args.txn c.args.table c.next_id-write.result c.args.house.now c.note_fitting.new.house c.requires.runs
      c.next_id-write.ensures.next
      (subst (λ (w : WriteId). EntryStep {T = Unit {0}} g.D.Shelf.told g.D.Shelf.faults (own_entry c.args.txn (entry.Given c.args.txn c.args.table w)) c.args.house.now
      c.note_fitting.new.house (Ok tt)) c.next_id-write.ensures.next c.in-Ok.ensures.noted);
  hard = c.note_fitting.ensures.hard;
}

pub returns-in-Err : goal.returns-in-Err
returns-in-Err g c = record {
  given =
      give-refused g.D.Shelf.told g.D.Shelf.faults c.args.txn c.args.table c.in-Err.fault c.args.house.now c.note_fitting.new.house c.requires.runs c.requires.room
      (subst (λ (w : WriteId). EntryStep {T = Unit {0}} g.D.Shelf.told g.D.Shelf.faults (own_entry c.args.txn (entry.Given c.args.txn c.args.table w)) c.args.house.now
      c.note_fitting.new.house (Err c.in-Err.fault)) c.next_id-write.ensures.next c.in-Err.ensures.noted);
  hard = c.note_fitting.ensures.hard;
}
