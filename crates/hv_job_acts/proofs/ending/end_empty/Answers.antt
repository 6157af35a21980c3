use Rattle.hv_history.specs.State.{State, state_of}
use Rattle.hv_history.specs.JobsFit.{EmptyFits}
use Rattle.hv_acts.specs.hv_telling.specs.hv_house.specs.House.{entries_of}
use Rattle.hv_acts.specs.hv_telling.specs.hv_house.specs.Steps.{seen_of}
use Rattle.hv_acts.specs.hv_telling.specs.hv_house.proofs.Hards.{shuts_later}
use Rattle.hv_job_acts.proofs.Endings.{test-so, test-not, empty-works, empty-has, unempty, emptied}
use Rattle.hv_job_acts.proofs.ending.end_empty.Goals as goal

pub nothing-requires-clause-works : goal.nothing-requires-clause-works
nothing-requires-clause-works g c =
    empty-works (state_of (entries_of c.args.house.now)) c.args.job.0
    (test-so c.args.house.now c.args.job.0 (λ (state : State). EmptyFits state) c.book.result.now.entries c.empty_fits.result c.book.ensures.entries
    c.empty_fits.ensures.fits c.if-empty_fits.true)

pub nothing-requires-clause-empty : goal.nothing-requires-clause-empty
nothing-requires-clause-empty g c =
    empty-has (state_of (entries_of c.args.house.now)) c.args.job.0
    (test-so c.args.house.now c.args.job.0 (λ (state : State). EmptyFits state) c.book.result.now.entries c.empty_fits.result c.book.ensures.entries
    c.empty_fits.ensures.fits c.if-empty_fits.true)

pub returns-then-empty_fits : goal.returns-then-empty_fits
returns-then-empty_fits g c = record {
  ended =
      emptied g.D.Shelf.told g.D.Shelf.faults c.args.house.now c.nothing.new.house c.requires.whole c.args.job c.nothing.result c.passed.result c.passed.ensures
      c.nothing.ensures.step
      (test-so c.args.house.now c.args.job.0 (λ (state : State). EmptyFits state) c.book.result.now.entries c.empty_fits.result c.book.ensures.entries
      c.empty_fits.ensures.fits c.if-empty_fits.true)
      c.nothing.ensures.gone c.nothing.ensures.others;
  hard =
      shuts_later g.D.Shelf.told g.D.Shelf.faults g.D.Shelf.hard _ _ (seen_of c.args.house.now) (seen_of c.nothing.new.house) c.nothing.ensures.step.step
      c.nothing.ensures.hard c.requires.hard;
}

pub returns-else-empty_fits : goal.returns-else-empty_fits
returns-else-empty_fits g c = record {
  ended =
      unempty g.D.Shelf.told g.D.Shelf.faults c.args.house.now c.args.house.now c.requires.whole c.args.job
      (test-not c.args.house.now c.args.job.0 (λ (state : State). EmptyFits state) c.book.result.now.entries c.empty_fits.result c.book.ensures.entries
      c.empty_fits.ensures.fits c.if-empty_fits.false);
  hard = c.requires.hard;
}
