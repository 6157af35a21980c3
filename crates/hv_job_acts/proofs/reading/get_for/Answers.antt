use Rattle.hv_acts.specs.hv_telling.specs.hv_house.specs.Steps.{seen_of}
use Rattle.hv_acts.specs.hv_telling.specs.hv_house.proofs.Hards.{shuts_later}
use Rattle.hv_job_acts.proofs.Atwork.{at-work-so, at-work-not}
use Rattle.hv_job_acts.proofs.Readers.{job-got, idle-got}
use Rattle.hv_job_acts.proofs.reading.get_for.Goals as goal

pub get_for_job-requires-clause-works : goal.get_for_job-requires-clause-works
get_for_job-requires-clause-works g c =
    at-work-so c.args.house.now c.args.job.0 c.book.result.now.entries c.is_at_work.result c.book.ensures.entries c.is_at_work.ensures.works c.if-is_at_work.true

pub returns-then-is_at_work : goal.returns-then-is_at_work
returns-then-is_at_work g c = record {
  got =
      job-got g.D.Shelf.told g.D.Shelf.faults c.args.house.now c.get_for_job.new.house c.requires.whole c.args.job c.args.place.now c.get_for_job.result c.found_in.result
      c.found_in.ensures c.get_for_job.ensures.step
      (at-work-so c.args.house.now c.args.job.0 c.book.result.now.entries c.is_at_work.result c.book.ensures.entries c.is_at_work.ensures.works c.if-is_at_work.true)
      c.get_for_job.ensures.bytes c.get_for_job.ensures.none c.get_for_job.ensures.made c.get_for_job.ensures.found c.get_for_job.ensures.gone
      c.get_for_job.ensures.others;
  hard =
      shuts_later g.D.Shelf.told g.D.Shelf.faults g.D.Shelf.hard _ _ (seen_of c.args.house.now) (seen_of c.get_for_job.new.house) c.get_for_job.ensures.step.step
      c.get_for_job.ensures.hard c.requires.hard;
}

pub returns-else-is_at_work : goal.returns-else-is_at_work
returns-else-is_at_work g c = record {
  got =
      idle-got g.D.Shelf.told g.D.Shelf.faults c.args.house.now c.args.house.now c.requires.whole c.args.job c.args.place.now
      (at-work-not c.args.house.now c.args.job.0 c.book.result.now.entries c.is_at_work.result c.book.ensures.entries c.is_at_work.ensures.works c.if-is_at_work.false);
  hard = c.requires.hard;
}
