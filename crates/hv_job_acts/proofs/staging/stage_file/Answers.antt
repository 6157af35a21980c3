use Rattle.hv_job_acts.proofs.Atwork.{at-work-so}
use Rattle.hv_job_acts.proofs.Stagings.{final-now, unstaged}
use Rattle.hv_job_acts.proofs.staging.stage_file.Goals as goal

pub returns-then-not-is_at_work : goal.returns-then-not-is_at_work
returns-then-not-is_at_work g c = record {
  staged =
      unstaged g.D.Shelf.told g.D.Shelf.faults c.args.house.now c.args.house.now c.requires.whole c.args.job c.args.name.now c.args.bucket c.args.bytes.now;
  hard = c.requires.hard;
}

pub returns-then-not-can_stage : goal.returns-then-not-can_stage
returns-then-not-can_stage g c = record {
  staged =
      unstaged g.D.Shelf.told g.D.Shelf.faults c.args.house.now c.args.house.now c.requires.whole c.args.job c.args.name.now c.args.bucket c.args.bytes.now;
  hard = c.requires.hard;
}

pub stage_final-requires-clause-works : goal.stage_final-requires-clause-works
stage_final-requires-clause-works g c =
    at-work-so c.args.house.now c.args.job.0 c.book.result.now.entries c.is_at_work.result c.book.ensures.entries c.is_at_work.ensures.works
    c.if-not-is_at_work.false

pub stage_final-requires-clause-among : goal.stage_final-requires-clause-among
stage_final-requires-clause-among g c =
    final-now c.args.house.now c.args.job.0 c.args.name.now c.book-2.result.now.entries c.is_final.result c.book-2.ensures.entries c.is_final.ensures.among
    c.if-is_final.true

pub returns-else-is_final : goal.returns-else-is_final
returns-else-is_final g c = record {
  staged =
      unstaged g.D.Shelf.told g.D.Shelf.faults c.args.house.now c.args.house.now c.requires.whole c.args.job c.args.name.now c.args.bucket c.args.bytes.now;
  hard = c.requires.hard;
}

pub stage_final-requires-clause-named : goal.stage_final-requires-clause-named
stage_final-requires-clause-named g c = c.can_stage.ensures c.if-not-can_stage.false
