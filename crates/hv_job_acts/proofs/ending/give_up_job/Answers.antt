use Rattle.hv_history.specs.State.{State}
use Rattle.hv_history.specs.JobsFit.{FailedFits}
use Rattle.hv_acts.specs.hv_telling.specs.hv_house.specs.Steps.{seen_of}
use Rattle.hv_acts.specs.hv_telling.specs.hv_house.proofs.Hards.{shuts_later}
use Rattle.hv_job_acts.proofs.Endings.{test-so, test-not, not-given, given-up, marked-so}
use Rattle.hv_job_acts.proofs.ending.give_up_job.Goals as goal

pub give_up-requires-clause-fits : goal.give_up-requires-clause-fits
give_up-requires-clause-fits g c =
    test-so c.args.house.now c.args.job.0 (λ (state : State). FailedFits state c.args.cause) c.book.result.now.entries c.failed_fits.result
    c.book.ensures.entries c.failed_fits.ensures.fits c.if-failed_fits.true

pub give_up-requires-clause-marked : goal.give_up-requires-clause-marked
give_up-requires-clause-marked g c = marked-so c.args.house.now c.args.job c.args.cause c.requires.marked

pub returns-then-failed_fits : goal.returns-then-failed_fits
returns-then-failed_fits g c = record {
  ended =
      given-up g.D.Shelf.told g.D.Shelf.faults c.args.house.now c.give_up.new.house c.requires.whole c.args.job c.args.cause c.give_up.result c.passed.result c.passed.ensures
      c.give_up.ensures.step
      (test-so c.args.house.now c.args.job.0 (λ (state : State). FailedFits state c.args.cause) c.book.result.now.entries c.failed_fits.result
      c.book.ensures.entries c.failed_fits.ensures.fits c.if-failed_fits.true)
      c.give_up.ensures.others;
  hard =
      shuts_later g.D.Shelf.told g.D.Shelf.faults g.D.Shelf.hard _ _ (seen_of c.args.house.now) (seen_of c.give_up.new.house) c.give_up.ensures.step.step
      c.give_up.ensures.hard c.requires.hard;
}

pub returns-else-failed_fits : goal.returns-else-failed_fits
returns-else-failed_fits g c = record {
  ended =
      not-given g.D.Shelf.told g.D.Shelf.faults c.args.house.now c.args.house.now c.requires.whole c.args.job c.args.cause
      (test-not c.args.house.now c.args.job.0 (λ (state : State). FailedFits state c.args.cause) c.book.result.now.entries c.failed_fits.result
      c.book.ensures.entries c.failed_fits.ensures.fits c.if-failed_fits.false);
  hard = c.requires.hard;
}
