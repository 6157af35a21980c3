use Rattle.hv_trail.specs.Kept.{trail_of}
use Rattle.hv_telling.specs.hv_house.specs.Steps.{seen_of}
use Rattle.hv_telling.specs.hv_house.proofs.Hards.{shuts_later}
use Rattle.hv_acts.proofs.Notes.{no-true}
use Rattle.hv_acts.proofs.Puts.{own-file, file-done, file-late, file-failed}
use Rattle.hv_acts.proofs.Truths.{file-true, file-house}
use Rattle.hv_acts.proofs.putting.put_running.Goals as goal

pub returns-then-not-runs_with : goal.returns-then-not-runs_with
returns-then-not-runs_with g c = record {
  put =
      file-late g.D.Shelf.told g.D.Shelf.faults c.args.by c.args.place c.args.file.now c.late.result c.args.house.now c.requires.whole c.late.ensures.late
      (λ runs. no-true c.runs_with.result c.if-not-runs_with.true (c.runs_with.ensures.runs.1 runs));
  hard = c.requires.hard;
}

pub put-requires-clause-own : goal.put-requires-clause-own
put-requires-clause-own g c =
    own-file c.args.house.now c.args.by c.args.place c.args.file.now c.requires.given (c.runs_with.ensures.runs.0 c.if-not-runs_with.false).0

pub put-requires-clause-truly : goal.put-requires-clause-truly
put-requires-clause-truly g c told =
    let runs = c.runs_with.ensures.runs.0 c.if-not-runs_with.false in
    file-house c.args.house.now c.args.by c.args.place c.args.file.now
    (file-true (trail_of c.args.house.now.trail) c.args.by runs.0 c.args.place c.args.file.now runs.1 (c.requires.truly told))

pub returns-in-Ok : goal.returns-in-Ok
returns-in-Ok g c = record {
  put =
      file-done g.D.Shelf.told g.D.Shelf.faults c.args.by c.args.place c.args.file.now c.args.house.now c.put.new.house
      (c.runs_with.ensures.runs.0 c.if-not-runs_with.false) c.requires.whole c.in-Ok.ensures.whole c.in-Ok.ensures.encoded c.in-Ok.ensures.put.step;
  hard = shuts_later g.D.Shelf.told g.D.Shelf.faults g.D.Shelf.hard _ _ (seen_of c.args.house.now) (seen_of c.put.new.house) c.put.ensures.put.step c.put.ensures.hard c.requires.hard;
}

pub returns-in-Err : goal.returns-in-Err
returns-in-Err g c = record {
  put =
      file-failed g.D.Shelf.told g.D.Shelf.faults c.args.by c.args.place c.args.file.now c.in-Err.fault c.args.house.now c.put.new.house
      c.requires.whole c.in-Err.ensures.stays c.in-Err.ensures.opens c.in-Err.ensures.start c.in-Err.ensures.put.book
      c.in-Err.ensures.put.stays c.in-Err.ensures.put.cause.failed c.in-Err.ensures.put.step;
  hard = shuts_later g.D.Shelf.told g.D.Shelf.faults g.D.Shelf.hard _ _ (seen_of c.args.house.now) (seen_of c.put.new.house) c.put.ensures.put.step c.put.ensures.hard c.requires.hard;
}
