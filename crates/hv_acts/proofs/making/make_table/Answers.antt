use Rattle.std.proofs.Common.{Err, Ok, subst}
use Rattle.hv_base.specs.declared.ids.TableId.{TableId}
use Rattle.hv_history.specs.declared.entry.Entry.TheVariants as entry
use Rattle.hv_trail.specs.Kept.{trail_of}
use Rattle.hv_acts.specs.Answers.{own_entry, EntryStep}
use Rattle.hv_acts.proofs.Notes.{no-true}
use Rattle.hv_acts.proofs.Truths.{make-true, true-house}
use Rattle.hv_acts.proofs.Makes.{make-late, make-done, make-failed}
use Rattle.hv_acts.proofs.making.make_table.Goals as goal

pub returns-then-not-runs_with-clause-made : goal.returns-then-not-runs_with-clause-made
returns-then-not-runs_with-clause-made g c =
    make-late g.D.Shelf.told g.D.Shelf.faults c.args.txn c.late.result c.args.house.now c.requires.whole c.late.ensures.late
    (λ runs. no-true c.runs_with.result c.if-not-runs_with.true (c.runs_with.ensures.runs.1 runs))

pub note_fitting-requires-clause-truly : goal.note_fitting-requires-clause-truly
note_fitting-requires-clause-truly g c told fits =
    let runs = c.runs_with.ensures.runs.0 c.if-not-runs_with.false in
    true-house c.args.house.now (entry.Create c.args.txn c.next_table-table.result)
    (make-true (trail_of c.args.house.now.trail) c.args.txn runs.0 c.next_table-table.result runs.1 (c.requires.truly told))

pub returns-in-Ok-clause-made : goal.returns-in-Ok-clause-made
returns-in-Ok-clause-made g c =
    make-done g.D.Shelf.told g.D.Shelf.faults c.args.txn c.next_table-table.result c.next_place-at.result c.args.house.now c.note_fitting.new.house
    (c.runs_with.ensures.runs.0 c.if-not-runs_with.false).1 c.next_table-table.ensures.next c.next_place-at.ensures.place
    (subst (λ (t : TableId). EntryStep {T = Unit {0}} g.D.Shelf.told g.D.Shelf.faults (own_entry c.args.txn (entry.Create c.args.txn t)) c.args.house.now c.note_fitting.new.house (Ok tt))
    c.next_table-table.ensures.next c.in-Ok.ensures.noted)

pub returns-in-Err-clause-made : goal.returns-in-Err-clause-made
returns-in-Err-clause-made g c =
    make-failed g.D.Shelf.told g.D.Shelf.faults c.args.txn c.in-Err.fault c.args.house.now c.note_fitting.new.house
    (subst (λ (t : TableId). EntryStep {T = Unit {0}} g.D.Shelf.told g.D.Shelf.faults (own_entry c.args.txn (entry.Create c.args.txn t)) c.args.house.now c.note_fitting.new.house (Err c.in-Err.fault))
    c.next_table-table.ensures.next c.in-Err.ensures.noted)
