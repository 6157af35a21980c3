use Rattle.hv_history.specs.declared.entry.Entry.TheVariants as entry
use Rattle.hv_trail.specs.Kept.{trail_of}
use Rattle.hv_acts.proofs.Truths.{commit-true, true-house}
use Rattle.hv_acts.proofs.Commits.{can-commit, commit-done, commit-failed}
use Rattle.hv_acts.proofs.committing.end_by_commit.Goals as goal

pub note_fitting-requires-clause-marked : goal.note_fitting-requires-clause-marked
note_fitting-requires-clause-marked g c =
    can-commit c.args.house.now c.args.due.txn c.args.due.wrote c.args.due.put c.requires.running.0 c.requires.unbroken c.requires.can c.requires.put

pub note_fitting-requires-clause-truly : goal.note_fitting-requires-clause-truly
note_fitting-requires-clause-truly g c told fits =
    true-house c.args.house.now (entry.Commit c.args.due.txn c.args.due.wrote)
    (commit-true (trail_of c.args.house.now.trail) c.args.due.txn c.requires.running.0 c.args.due.wrote c.args.due.put c.requires.running.1 fits c.requires.put
    (c.requires.truly told))

pub returns-in-Ok : goal.returns-in-Ok
returns-in-Ok g c = record {
  committed =
      commit-done g.D.Shelf.told g.D.Shelf.faults c.args.due.txn c.args.due.wrote c.args.due.name c.args.due.put c.next_place-at.result c.args.house.now
      c.note_fitting.new.house c.next_place-at.ensures.place c.requires.unbroken c.requires.put c.requires.running.1 c.in-Ok.ensures.noted;
  hard = c.note_fitting.ensures.hard;
}

pub returns : goal.returns
returns g c = record {
  committed =
      commit-failed g.D.Shelf.told g.D.Shelf.faults c.args.due.txn c.args.due.wrote c.args.due.name c.args.due.put c.in-Err.fault c.args.house.now
      c.note_fitting.new.house c.requires.clear c.in-Err.ensures.noted;
  hard = c.note_fitting.ensures.hard;
}
