use Rattle.std.proofs.Common.{sym, ◌∙◌}
use Rattle.hv_job_acts.proofs.Atwork.{at-work-so}
use Rattle.hv_job_acts.proofs.Publications.{broke, unpublished}
use Rattle.hv_job_acts.proofs.staging.publish_job.Goals as goal

pub returns-then-not-is_at_work : goal.returns-then-not-is_at_work
returns-then-not-is_at_work g c = record {
  published = unpublished g.D.Shelf.told g.D.Shelf.faults c.args.house.now c.args.house.now c.requires.whole c.args.job;
  hard = c.requires.hard;
}

pub returns-in-Some : goal.returns-in-Some
returns-in-Some g c = record {
  published =
      broke g.D.Shelf.told g.D.Shelf.faults c.args.house.now c.args.house.now c.requires.whole c.args.job c.in-Some.put c.in-Some.count
      (sym c.broken_of.ensures.broken ∙ c.in-Some.is);
  hard = c.requires.hard;
}

pub publish_whole-requires-clause-works : goal.publish_whole-requires-clause-works
publish_whole-requires-clause-works g c =
    at-work-so c.args.house.now c.args.job.0 c.book.result.now.entries c.is_at_work.result c.book.ensures.entries c.is_at_work.ensures.works
    c.if-not-is_at_work.false

pub publish_whole-requires-clause-unbroken : goal.publish_whole-requires-clause-unbroken
publish_whole-requires-clause-unbroken g c = sym c.broken_of.ensures.broken ∙ c.in-None.is
