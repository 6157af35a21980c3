use Rattle.hv_job_acts.proofs.Cleanings.{ready-now, unready-now, uncleaned, unnamed}
use Rattle.hv_job_acts.proofs.removing.note_cleaned.Goals as goal

pub returns-then-not-is_ready : goal.returns-then-not-is_ready
returns-then-not-is_ready g c = record {
  cleaned =
      uncleaned g.D.Shelf.told g.D.Shelf.faults c.args.house.now c.args.house.now c.requires.whole c.args.job
      (λ ready names gone.
      unready-now c.args.house.now c.args.job.0 c.book.result.now.entries c.is_ready.result c.book.ensures.entries c.is_ready.ensures.ready
      c.if-not-is_ready.true ready);
  hard = c.requires.hard;
}

pub clean_if-requires-clause-ready : goal.clean_if-requires-clause-ready
clean_if-requires-clause-ready g c =
    ready-now c.args.house.now c.args.job.0 c.book.result.now.entries c.is_ready.result c.book.ensures.entries c.is_ready.ensures.ready c.if-not-is_ready.false

pub clean_if-requires-clause-may : goal.clean_if-requires-clause-may
clean_if-requires-clause-may g c = c.in-Ok.ensures.may

pub clean_if-requires-clause-left : goal.clean_if-requires-clause-left
clean_if-requires-clause-left g c = c.in-Ok.ensures.left

pub returns-in-Err : goal.returns-in-Err
returns-in-Err g c = record {
  cleaned = unnamed g.D.Shelf.told g.D.Shelf.faults c.args.house.now c.args.house.now c.requires.whole c.args.job;
  hard = c.requires.hard;
}
