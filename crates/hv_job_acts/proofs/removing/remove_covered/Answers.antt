use Rattle.hv_history.specs.State.{State}
use Rattle.hv_history.specs.JobsFit.{OfJob}
use Rattle.hv_acts.specs.hv_telling.specs.hv_house.specs.Steps.{seen_of}
use Rattle.hv_acts.specs.hv_telling.specs.hv_house.proofs.Hards.{shuts_later}
use Rattle.hv_job_calls.specs.Refusals.{IsCoveredDir}
use Rattle.hv_job_acts.proofs.Passed.{at-book}
use Rattle.hv_job_acts.proofs.Removals.{removes}
use Rattle.hv_job_acts.proofs.removing.remove_covered.Goals as goal

pub remove-requires-clause-covered : goal.remove-requires-clause-covered
remove-requires-clause-covered g c =
    at-book c.args.house.now (λ (state : State). OfJob state c.args.job.0 (IsCoveredDir c.args.dir)) c.requires.covered

pub returns : goal.returns
returns g c = record {
  removed =
      removes g.D.Shelf.told g.D.Shelf.faults c.args.dir c.args.house.now c.remove.new.house c.remove.result c.passed.result c.passed.ensures c.requires.whole
      c.remove.ensures.step c.args.job c.remove.ensures.gone c.remove.ensures.needed c.remove.ensures.others;
  hard =
      shuts_later g.D.Shelf.told g.D.Shelf.faults g.D.Shelf.hard _ _ (seen_of c.args.house.now) (seen_of c.remove.new.house) c.remove.ensures.step.step
      c.remove.ensures.hard c.requires.hard;
}
