use Rattle.hv_job_acts.proofs.Stagings.{place-now, placeless}
use Rattle.hv_job_acts.proofs.staging.stage_final.Goals as goal

pub stage_at-requires-clause-place : goal.stage_at-requires-clause-place
stage_at-requires-clause-place g c =
    place-now c.args.house.now c.args.job.0 c.args.name.now c.args.bucket c.book.result.now.entries c.in-Ok.place c.book.ensures.entries c.in-Ok.ensures.place

pub returns-in-Err : goal.returns-in-Err
returns-in-Err g c = record {
  staged =
      placeless g.D.Shelf.told g.D.Shelf.faults c.args.house.now c.args.house.now c.requires.whole c.args.job c.args.name.now c.args.bucket c.args.bytes.now;
  hard = c.requires.hard;
}
