use Rattle.hv_acts.specs.hv_telling.specs.hv_house.specs.Steps.{seen_of}
use Rattle.hv_acts.specs.hv_telling.specs.hv_house.proofs.Hards.{shuts_later}
use Rattle.hv_job_acts.proofs.Atwork.{at-work-so, at-work-not}
use Rattle.hv_job_acts.proofs.Readers.{job-listed, idle-listed}
use Rattle.hv_job_acts.proofs.reading.list_for.Goals as goal

pub list_job-requires-clause-works : goal.list_job-requires-clause-works
list_job-requires-clause-works g c =
    at-work-so c.args.house.now c.args.job.0 c.book.result.now.entries c.is_at_work.result c.book.ensures.entries c.is_at_work.ensures.works c.if-is_at_work.true

pub returns-then-is_at_work : goal.returns-then-is_at_work
returns-then-is_at_work g c = record {
  listed =
      job-listed g.D.Shelf.told g.D.Shelf.faults c.args.house.now c.list_job.new.house c.requires.whole c.args.job c.list_job.result c.passed.result c.passed.ensures
      c.list_job.ensures.step
      (at-work-so c.args.house.now c.args.job.0 c.book.result.now.entries c.is_at_work.result c.book.ensures.entries c.is_at_work.ensures.works c.if-is_at_work.true)
      c.list_job.ensures.list c.list_job.ensures.files c.list_job.ensures.gone c.list_job.ensures.others;
  hard =
      shuts_later g.D.Shelf.told g.D.Shelf.faults g.D.Shelf.hard _ _ (seen_of c.args.house.now) (seen_of c.list_job.new.house) c.list_job.ensures.step.step
      c.list_job.ensures.hard c.requires.hard;
}

pub returns-else-is_at_work : goal.returns-else-is_at_work
returns-else-is_at_work g c = record {
  listed =
      idle-listed g.D.Shelf.told g.D.Shelf.faults c.args.house.now c.args.house.now c.requires.whole c.args.job
      (at-work-not c.args.house.now c.args.job.0 c.book.result.now.entries c.is_at_work.result c.book.ensures.entries c.is_at_work.ensures.works c.if-is_at_work.false);
  hard = c.requires.hard;
}
