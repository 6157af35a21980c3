use Rattle.hv_history.specs.declared.entry.Entry.TheVariants as entry
use Rattle.hv_trail.specs.Kept.{trail_of}
use Rattle.hv_acts.proofs.Notes.{no-true}
use Rattle.hv_acts.proofs.Truths.{drop-true, true-house}
use Rattle.hv_acts.proofs.Drops.{drop-late, drop-done, drop-failed}
use Rattle.hv_acts.proofs.dropping.drop_table.Goals as goal

pub returns-then-not-runs_with-clause-dropped : goal.returns-then-not-runs_with-clause-dropped
returns-then-not-runs_with-clause-dropped g c =
    drop-late g.D.Shelf.told g.D.Shelf.faults c.args.txn c.args.table c.late.result c.args.house.now c.requires.whole c.late.ensures.late
    (λ runs. no-true c.runs_with.result c.if-not-runs_with.true (c.runs_with.ensures.runs.1 runs))

pub note_fitting-requires-clause-truly : goal.note_fitting-requires-clause-truly
note_fitting-requires-clause-truly g c told fits =
    let runs = c.runs_with.ensures.runs.0 c.if-not-runs_with.false in
    true-house c.args.house.now (entry.Drop c.args.txn c.args.table)
    (drop-true (trail_of c.args.house.now.trail) c.args.txn runs.0 c.args.table runs.1 (c.requires.truly told))

pub returns-in-Ok-clause-dropped : goal.returns-in-Ok-clause-dropped
returns-in-Ok-clause-dropped g c =
    drop-done g.D.Shelf.told g.D.Shelf.faults c.args.txn c.args.table c.next_place-at.result c.args.house.now c.note_fitting.new.house
    (c.runs_with.ensures.runs.0 c.if-not-runs_with.false).1 c.next_place-at.ensures.place c.in-Ok.ensures.noted

pub returns-in-Err-clause-dropped : goal.returns-in-Err-clause-dropped
returns-in-Err-clause-dropped g c =
    drop-failed g.D.Shelf.told g.D.Shelf.faults c.args.txn c.args.table c.in-Err.fault c.args.house.now c.note_fitting.new.house c.in-Err.ensures.noted
