use Rattle.std.proofs.Common.{sym, ◌∙◌}
use Rattle.hv_trail.specs.Kept.{trail_of}
use Rattle.hv_acts.specs.Requesting.{requested}
use Rattle.hv_acts.proofs.Notes.{no-true}
use Rattle.hv_acts.proofs.Truths.{true-house}
use Rattle.hv_acts.proofs.Requests.{request-true, request-late, request-passed, request-done, request-failed}
use Rattle.hv_acts.proofs.requesting.ask_abort.Goals as goal

pub returns-then-not-runs_with : goal.returns-then-not-runs_with
returns-then-not-runs_with g c = record {
  requested =
      request-late g.D.Shelf.told g.D.Shelf.faults c.args.by c.args.place c.args.txn c.late.result c.args.house.now c.requires.whole c.late.ensures.late
      (λ runs. no-true c.runs_with.result c.if-not-runs_with.true (c.runs_with.ensures.runs.1 runs));
  hard = c.requires.hard;
}

pub returns-then-not-is_left : goal.returns-then-not-is_left
returns-then-not-is_left g c = record {
  requested =
      request-passed g.D.Shelf.told g.D.Shelf.faults c.args.by c.args.place c.args.txn c.args.house.now c.requires.whole
      (sym c.is_left.ensures.left ∙ c.if-not-is_left.true);
  hard = c.requires.hard;
}

pub note_fitting-requires-clause-truly : goal.note_fitting-requires-clause-truly
note_fitting-requires-clause-truly g c told fits =
    true-house c.args.house.now (requested c.args.by c.args.txn) (request-true (trail_of c.args.house.now.trail) c.args.by c.args.txn fits)

pub returns-in-Ok : goal.returns-in-Ok
returns-in-Ok g c = record {
  requested =
      request-done g.D.Shelf.told g.D.Shelf.faults c.args.by c.args.place c.args.txn c.args.house.now c.note_fitting.new.house
      (sym c.is_left.ensures.left ∙ c.if-not-is_left.false) c.in-Ok.ensures.noted;
  hard = c.note_fitting.ensures.hard;
}

pub returns-in-Err : goal.returns-in-Err
returns-in-Err g c = record {
  requested =
      request-failed g.D.Shelf.told g.D.Shelf.faults c.args.by c.args.place c.args.txn c.in-Err.fault c.args.house.now c.note_fitting.new.house
      (sym c.is_left.ensures.left ∙ c.if-not-is_left.false) c.in-Err.ensures.noted;
  hard = c.note_fitting.ensures.hard;
}
